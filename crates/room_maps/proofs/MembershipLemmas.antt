-- What each change of the two sets does to who is in which room.
use Rattle.std.proofs.Common.{◌≡◌, ℕ, Bool, true, false, ◌&&◌, ◌||◌, not, cond, List, [], ◌∷◌, ◌++◌, map, ◌+◌, ◌-◌, ◌≤◌, ◌<◌, nat_le, nat_lt, append_assoc, append-nil, refl, sym, ap, ◌∙◌, subst, nat_cmp, true≢false, arith}
use Rattle.std.specs.Ordering.{eq_by_cmp}
use Rattle.std.specs.Cmp.{nat_cmp_total, eq_by_cmp_equiv}
use Rattle.std.specs.Cmp.Lexicographic.{nat_list_cmp_total}
use Rattle.std.specs.List.{filter, list_any}
use Rattle.std.specs.FinSet as set
use Rattle.std.specs.FinSet.{nat_cmp-IsAntisymmetric, contains-empty, contains-insert, contains-remove, contains-from_list, contains-retain, contains-union, contains-difference, contains-items, len-empty, len-insert, len-remove, same_set}
use Rattle.std.proofs.lemmas.Bool.Decides.{nat_tests}
use Rattle.std.proofs.lemmas.List.Folds.{list_any-append}
use Rattle.terms.specs.Room.{room_cmp, own_room}
use Rattle.room_maps.specs.Membership.{pair_cmp, RoomSets, is_socket, is_in, is_named, rooms_in, pairs_with, no_sockets, with_pair, without_pair, with_pairs, with_members, without_members, with_socket, with_socket_in, without_socket, is_full, are_too_many, HasFewRooms, AreConsistent}
use Rattle.room_maps.proofs.BooleanLemmas.{and_comm, or_comm, same_bool, taken_back_bool, added_again_bool}
use Rattle.room_maps.proofs.OrderLemmas.{pair_cmp_total, room_cmp-IsAntisymmetric, pair_cmp-IsAntisymmetric, then-eq, nat_tied, room_tied, pair_tied, nat_itself, eq-pair, list_any-map, list_any-and, list_any-filter}

-- two are the same that hold the same sockets and the same pairs
pub same_sets : (v n : RoomSets) → ((q : ℕ) → is_socket v q ≡ is_socket n q) → ((q : ℕ) (w : List ℕ) → is_in v q w ≡ is_in n q w) → v ≡ n
same_sets v n sockets pairs i = record {
  sockets = same_set nat_cmp_total nat_cmp-IsAntisymmetric v.sockets n.sockets sockets i;
  pairs = same_set pair_cmp_total pair_cmp-IsAntisymmetric v.pairs n.pairs (λ q. pairs q.0 q.1) i;
}

-- ---- who is in which room after each change

pub is_in-with_pair : (v : RoomSets) (s : ℕ) (r : List ℕ) (q : ℕ) (w : List ℕ) → is_in (with_pair v s r) q w ≡ ((eq_by_cmp nat_cmp s q && eq_by_cmp room_cmp r w) || is_in v q w)
is_in-with_pair v s r q w = contains-insert pair_cmp_total v.pairs (s, r) (q, w) ∙ ap (λ b. b || is_in v q w) (eq-pair s r (q, w))

pub is_in-without_pair : (v : RoomSets) (s : ℕ) (r : List ℕ) (q : ℕ) (w : List ℕ) → is_in (without_pair v s r) q w ≡ (not (eq_by_cmp nat_cmp s q && eq_by_cmp room_cmp r w) && is_in v q w)
is_in-without_pair v s r q w = contains-remove pair_cmp_total v.pairs (s, r) (q, w) ∙ ap (λ b. not b && is_in v q w) (eq-pair s r (q, w))

pub is_in-with_pairs : (v : RoomSets) (s : ℕ) (rooms : List (List ℕ)) (q : ℕ) (w : List ℕ) → is_in (with_pairs v s rooms) q w ≡ ((eq_by_cmp nat_cmp s q && list_any (eq_by_cmp room_cmp w) rooms) || is_in v q w)
is_in-with_pairs v s rooms q w =
    contains-union pair_cmp_total v.pairs (set.from_list (map (λ r. (s, r)) rooms)) (q, w)
    ∙ ap (λ b. is_in v q w || b)
    (contains-from_list pair_cmp_total (map (λ r. (s, r)) rooms) (q, w)
    ∙ list_any-map (eq_by_cmp pair_cmp (q, w)) (λ r. (s, r)) rooms
    ∙ ap (λ p. list_any p rooms) (λ i r. then-eq (nat_cmp q s) (room_cmp w r) i)
    ∙ list_any-and (eq_by_cmp nat_cmp q s) (eq_by_cmp room_cmp w) rooms
    ∙ ap (λ b. b && list_any (eq_by_cmp room_cmp w) rooms) ((eq_by_cmp_equiv nat_cmp_total).symm q s))
    ∙ or_comm (is_in v q w) (eq_by_cmp nat_cmp s q && list_any (eq_by_cmp room_cmp w) rooms)

contains-pairs_with : (sids : List ℕ) (r : List ℕ) (q : ℕ) (w : List ℕ) → set.contains (pairs_with sids r) (q, w) ≡ (is_named sids q && eq_by_cmp room_cmp r w)
contains-pairs_with sids r q w =
    contains-from_list pair_cmp_total (map (λ s. (s, r)) sids) (q, w)
    ∙ list_any-map (eq_by_cmp pair_cmp (q, w)) (λ s. (s, r)) sids
    ∙ ap (λ p. list_any p sids) (λ i s. (then-eq (nat_cmp q s) (room_cmp w r) ∙ and_comm (eq_by_cmp nat_cmp q s) (eq_by_cmp room_cmp w r)) i)
    ∙ list_any-and (eq_by_cmp room_cmp w r) (eq_by_cmp nat_cmp q) sids
    ∙ and_comm (eq_by_cmp room_cmp w r) (is_named sids q)
    ∙ ap (λ b. is_named sids q && b) ((eq_by_cmp_equiv nat_list_cmp_total).symm w r)

pub is_in-with_members : (v : RoomSets) (sids : List ℕ) (r : List ℕ) (q : ℕ) (w : List ℕ) → is_in (with_members v sids r) q w ≡ ((is_named sids q && eq_by_cmp room_cmp r w) || is_in v q w)
is_in-with_members v sids r q w =
    contains-union pair_cmp_total v.pairs (pairs_with sids r) (q, w)
    ∙ ap (λ b. is_in v q w || b) (contains-pairs_with sids r q w)
    ∙ or_comm (is_in v q w) (is_named sids q && eq_by_cmp room_cmp r w)

pub is_in-without_members : (v : RoomSets) (sids : List ℕ) (r : List ℕ) (q : ℕ) (w : List ℕ) → is_in (without_members v sids r) q w ≡ (not (is_named sids q && eq_by_cmp room_cmp r w) && is_in v q w)
is_in-without_members v sids r q w =
    contains-difference pair_cmp_total v.pairs (pairs_with sids r) (q, w)
    ∙ ap (λ b. is_in v q w && not b) (contains-pairs_with sids r q w)
    ∙ and_comm (is_in v q w) (not (is_named sids q && eq_by_cmp room_cmp r w))

pub is_in-without_socket : (v : RoomSets) (s : ℕ) (q : ℕ) (w : List ℕ) → is_in (without_socket v s) q w ≡ (not (eq_by_cmp nat_cmp s q) && is_in v q w)
is_in-without_socket v s q w =
    contains-retain v.pairs (λ p. not (eq_by_cmp nat_cmp s p.0)) (q, w) (λ x e. ap (λ p. not (eq_by_cmp nat_cmp s p.0)) (sym (pair_cmp-IsAntisymmetric (q, w) x e)))
    ∙ and_comm (is_in v q w) (not (eq_by_cmp nat_cmp s q))

pub is_socket-with_socket : (v : RoomSets) (s q : ℕ) → is_socket (with_socket v s) q ≡ (eq_by_cmp nat_cmp s q || is_socket v q)
is_socket-with_socket v s q = contains-insert nat_cmp_total v.sockets s q ∙ ap (λ b. b || is_socket v q) ((eq_by_cmp_equiv nat_cmp_total).symm q s)

pub is_socket-without_socket : (v : RoomSets) (s q : ℕ) → is_socket (without_socket v s) q ≡ (not (eq_by_cmp nat_cmp s q) && is_socket v q)
is_socket-without_socket v s q = contains-remove nat_cmp_total v.sockets s q ∙ ap (λ b. not b && is_socket v q) ((eq_by_cmp_equiv nat_cmp_total).symm q s)

-- ---- the rooms that a socket is in

pub contains-rooms_in : (v : RoomSets) (s : ℕ) (r : List ℕ) → set.contains (rooms_in v s) r ≡ is_in v s r
unfolding rooms_in
contains-rooms_in v s r =
    contains-from_list nat_list_cmp_total _ r
    ∙ list_any-map (eq_by_cmp room_cmp r) (λ p. p.1) (filter (λ p. eq_by_cmp nat_cmp s p.0) (set.items v.pairs))
    ∙ list_any-filter (λ p. eq_by_cmp room_cmp r p.1) (λ p. eq_by_cmp nat_cmp s p.0) (set.items v.pairs)
    ∙ ap (λ p. list_any p (set.items v.pairs)) (λ i p. sym (then-eq (nat_cmp s p.0) (room_cmp r p.1)) i)
    ∙ sym (contains-items v.pairs (s, r))

-- the rooms of a socket are those that it is in
pub rooms_are : (v : RoomSets) (s : ℕ) (rooms : set.FinSet room_cmp) → ((w : List ℕ) → is_in v s w ≡ set.contains rooms w) → rooms_in v s ≡ rooms
rooms_are v s rooms h = same_set nat_list_cmp_total room_cmp-IsAntisymmetric (rooms_in v s) rooms (λ w. contains-rooms_in v s w ∙ h w)

-- who is in the same rooms has as many
pub same_rooms : (v n : RoomSets) (s : ℕ) → ((w : List ℕ) → is_in n s w ≡ is_in v s w) → set.len (rooms_in n s) ≡ set.len (rooms_in v s)
same_rooms v n s h = ap set.len (rooms_are n s (rooms_in v s) (λ w. h w ∙ sym (contains-rooms_in v s w)))

-- one who is in no more rooms than another
few_of_same : (v n : RoomSets) (s : ℕ) → HasFewRooms v → ((w : List ℕ) → is_in n s w ≡ is_in v s w) → set.len (rooms_in n s) ≤ 256
few_of_same v n s few h = let e = same_rooms v n s h in let few_here = few s in omega (arith, e, few_here)

pub few_empty : HasFewRooms no_sockets
few_empty s =
    let none : set.len (rooms_in no_sockets s) ≡ 0 =
    ap set.len (rooms_are no_sockets s set.empty (λ w. contains-empty pair_cmp (s, w) ∙ sym (contains-empty room_cmp w))) ∙ len-empty room_cmp in
    omega (arith, none)

-- a room more counts one, unless the socket is in it already
pub len-with_pair : (v : RoomSets) (s : ℕ) (r : List ℕ) → set.len (rooms_in (with_pair v s r) s) ≡ cond (is_in v s r) (set.len (rooms_in v s)) (set.len (rooms_in v s) + 1)
len-with_pair v s r =
    ap set.len
    (rooms_are (with_pair v s r) s (set.insert (rooms_in v s) r)
    (λ w. is_in-with_pair v s r s w
    ∙ ap (λ b. (b && eq_by_cmp room_cmp r w) || is_in v s w) (nat_itself s)
    ∙ ap (λ b. b || is_in v s w) ((eq_by_cmp_equiv nat_list_cmp_total).symm r w)
    ∙ ap (λ b. eq_by_cmp room_cmp w r || b) (sym (contains-rooms_in v s w))
    ∙ sym (contains-insert nat_list_cmp_total (rooms_in v s) r w)))
    ∙ len-insert nat_list_cmp_total (rooms_in v s) r
    ∙ ap (λ b. cond b (set.len (rooms_in v s)) (set.len (rooms_in v s) + 1)) (contains-rooms_in v s r)

at_most : (b : Bool) (n : ℕ) → n < 256 → cond b n (n + 1) ≤ 256
at_most true n h = omega arith
at_most false n h = omega arith

-- what is false for one socket leaves the rooms of the others
pub few_with_pair : (v : RoomSets) (s : ℕ) (r : List ℕ) → HasFewRooms v → is_full v s ≡ false → HasFewRooms (with_pair v s r)
few_with_pair v s r few room q =
    elim (eq_by_cmp nat_cmp s q) as (λ b. eq_by_cmp nat_cmp s q ≡ b → set.len (rooms_in (with_pair v s r) q) ≤ 256) [
      | true ↦ λ e.
          subst (λ q. set.len (rooms_in (with_pair v s r) q) ≤ 256) (nat_tied s q e)
          (let count = len-with_pair v s r in
          let bound = at_most (is_in v s r) (set.len (rooms_in v s)) (grind (arith, nat_tests, room)) in
          omega (arith, count, bound))
      | false ↦ λ e. few_of_same v (with_pair v s r) q few (λ w. is_in-with_pair v s r q w ∙ ap (λ b. (b && eq_by_cmp room_cmp r w) || is_in v q w) e)
    ] refl

-- one who is in no more rooms, but perhaps in one less
few_of_less : (v n : RoomSets) (q : ℕ) (r : List ℕ) (less : Bool) → HasFewRooms v → ((w : List ℕ) → is_in n q w ≡ (not (less && eq_by_cmp room_cmp r w) && is_in v q w)) → set.len (rooms_in n q) ≤ 256
few_of_less v n q r false few h = few_of_same v n q few h
few_of_less v n q r true few h =
    let count : set.len (rooms_in n q) ≡ cond (set.contains (rooms_in v q) r) (set.len (rooms_in v q) - 1) (set.len (rooms_in v q)) =
    ap set.len
    (rooms_are n q (set.remove (rooms_in v q) r)
    (λ w. h w
    ∙ ap (λ b. not b && is_in v q w) ((eq_by_cmp_equiv nat_list_cmp_total).symm r w)
    ∙ ap (λ b. not (eq_by_cmp room_cmp w r) && b) (sym (contains-rooms_in v q w))
    ∙ sym (contains-remove nat_list_cmp_total (rooms_in v q) r w)))
    ∙ len-remove nat_list_cmp_total (rooms_in v q) r in
    let bound = no_more (set.contains (rooms_in v q) r) (set.len (rooms_in v q)) (few q) in
    omega (arith, count, bound)
  where
    no_more : (b : Bool) (n : ℕ) → n ≤ 256 → cond b (n - 1) n ≤ 256
    no_more true n h = omega arith
    no_more false n h = omega arith

pub few_without_pair : (v : RoomSets) (s : ℕ) (r : List ℕ) → HasFewRooms v → HasFewRooms (without_pair v s r)
few_without_pair v s r few q = few_of_less v (without_pair v s r) q r (eq_by_cmp nat_cmp s q) few (is_in-without_pair v s r q)

pub few_without_socket : (v : RoomSets) (s : ℕ) → HasFewRooms v → HasFewRooms (without_socket v s)
few_without_socket v s few q =
    elim (eq_by_cmp nat_cmp s q) as (λ b. eq_by_cmp nat_cmp s q ≡ b → set.len (rooms_in (without_socket v s) q) ≤ 256) [
      | true ↦ λ e.
          (let none : set.len (rooms_in (without_socket v s) q) ≡ 0 =
          ap set.len (rooms_are (without_socket v s) q set.empty (λ w. is_in-without_socket v s q w ∙ ap (λ b. not b && is_in v q w) e ∙ sym (contains-empty room_cmp w))) ∙ len-empty room_cmp in
          omega (arith, none))
      | false ↦ λ e. few_of_same v (without_socket v s) q few (λ w. is_in-without_socket v s q w ∙ ap (λ b. not b && is_in v q w) e)
    ] refl

-- ---- a pair that is there already, and several pairs at once

pub with_pair-again : (v : RoomSets) (s : ℕ) (r : List ℕ) → is_in v s r ≡ true → with_pair v s r ≡ v
with_pair-again v s r here =
    let same : set.insert v.pairs (s, r) ≡ v.pairs =
    same_set pair_cmp_total pair_cmp-IsAntisymmetric (set.insert v.pairs (s, r)) v.pairs
    (λ q. contains-insert pair_cmp_total v.pairs (s, r) q
    ∙ added_again_bool (eq_by_cmp pair_cmp q (s, r)) (set.contains v.pairs q) (λ e. ap (set.contains v.pairs) (pair_tied q (s, r) e) ∙ here)) in
    λ i. record { sockets = v.sockets; pairs = same i }

pub with_pairs-none : (v : RoomSets) (s : ℕ) → with_pairs v s [] ≡ v
with_pairs-none v s =
    let same : set.union v.pairs (set.from_list (map (λ r. (s, r)) [])) ≡ v.pairs =
    same_set pair_cmp_total pair_cmp-IsAntisymmetric (set.union v.pairs (set.from_list (map (λ r. (s, r)) []))) v.pairs
    (λ q. is_in-with_pairs v s [] q.0 q.1 ∙ nothing (eq_by_cmp nat_cmp s q.0) (set.contains v.pairs q)) in
    λ i. record { sockets = v.sockets; pairs = same i }
  where
    nothing : (e o : Bool) → ((e && false) || o) ≡ o
    nothing true o = refl
    nothing false o = refl

one_more_bool : (e a c o : Bool) → ((e && (a || (c || false))) || o) ≡ ((e && c) || ((e && a) || o))
one_more_bool false a c o = refl
one_more_bool true true true o = refl
one_more_bool true true false o = refl
one_more_bool true false true o = refl
one_more_bool true false false o = refl

pub with_pairs-more : (v : RoomSets) (s : ℕ) (rooms : List (List ℕ)) (r : List ℕ) → with_pairs v s (rooms ++ r ∷ []) ≡ with_pair (with_pairs v s rooms) s r
with_pairs-more v s rooms r =
    let same : set.union v.pairs (set.from_list (map (λ r. (s, r)) (rooms ++ r ∷ []))) ≡ set.insert (set.union v.pairs (set.from_list (map (λ r. (s, r)) rooms))) (s, r) =
    same_set pair_cmp_total pair_cmp-IsAntisymmetric _ _
    (λ q. is_in-with_pairs v s (rooms ++ r ∷ []) q.0 q.1
    ∙ ap (λ b. (eq_by_cmp nat_cmp s q.0 && b) || set.contains v.pairs q) (list_any-append (eq_by_cmp room_cmp q.1) rooms (r ∷ []))
    ∙ one_more_bool (eq_by_cmp nat_cmp s q.0) (list_any (eq_by_cmp room_cmp q.1) rooms) (eq_by_cmp room_cmp q.1 r) (set.contains v.pairs q)
    ∙ ap (λ b. (eq_by_cmp nat_cmp s q.0 && b) || ((eq_by_cmp nat_cmp s q.0 && list_any (eq_by_cmp room_cmp q.1) rooms) || set.contains v.pairs q)) ((eq_by_cmp_equiv nat_list_cmp_total).symm q.1 r)
    ∙ ap (λ b. (eq_by_cmp nat_cmp s q.0 && eq_by_cmp room_cmp r q.1) || b) (sym (is_in-with_pairs v s rooms q.0 q.1))
    ∙ sym (is_in-with_pair (with_pairs v s rooms) s r q.0 q.1)) in
    λ i. record { sockets = v.sockets; pairs = same i }

-- the first of the rooms are no more than all of them
pub len_grows : (v : RoomSets) (s : ℕ) (xs ys : List (List ℕ)) → set.len (rooms_in (with_pairs v s xs) s) ≤ set.len (rooms_in (with_pairs v s (xs ++ ys)) s)
len_grows v s xs [] = let same = ap (λ zs. set.len (rooms_in (with_pairs v s zs) s)) (append-nil xs) in omega (arith, same)
len_grows v s xs (y ∷ ys) =
    let more : set.len (rooms_in (with_pairs v s (xs ++ y ∷ [])) s) ≡ cond (is_in (with_pairs v s xs) s y) (set.len (rooms_in (with_pairs v s xs) s)) (set.len (rooms_in (with_pairs v s xs) s) + 1) =
    ap (λ v. set.len (rooms_in v s)) (with_pairs-more v s xs y) ∙ len-with_pair (with_pairs v s xs) s y in
    let rest = len_grows v s (xs ++ y ∷ []) ys in
    let same = ap (λ zs. set.len (rooms_in (with_pairs v s zs) s)) (append_assoc xs (y ∷ []) ys) in
    let grown = grows (is_in (with_pairs v s xs) s y) (set.len (rooms_in (with_pairs v s xs) s)) in
    omega (arith, more, rest, same, grown)
  where
    grows : (b : Bool) (n : ℕ) → n ≤ cond b n (n + 1)
    grows true n = omega arith
    grows false n = omega arith

-- where all the rooms are few enough, there is space for the next one
pub place_for : (v : RoomSets) (s : ℕ) (xs : List (List ℕ)) (y : List ℕ) (ys : List (List ℕ)) → set.len (rooms_in (with_pairs v s (xs ++ y ∷ ys)) s) ≤ 256 → is_in (with_pairs v s xs) s y ≡ false → is_full (with_pairs v s xs) s ≡ false
place_for v s xs y ys few absent =
    let more : set.len (rooms_in (with_pairs v s (xs ++ y ∷ [])) s) ≡ set.len (rooms_in (with_pairs v s xs) s) + 1 =
    ap (λ v. set.len (rooms_in v s)) (with_pairs-more v s xs y) ∙ len-with_pair (with_pairs v s xs) s y
    ∙ ap (λ b. cond b (set.len (rooms_in (with_pairs v s xs) s)) (set.len (rooms_in (with_pairs v s xs) s) + 1)) absent in
    let rest = len_grows v s (xs ++ y ∷ []) ys in
    let same = ap (λ zs. set.len (rooms_in (with_pairs v s zs) s)) (append_assoc xs (y ∷ []) ys) in
    below (set.len (rooms_in (with_pairs v s xs) s)) (omega (arith, more, rest, same, few))
  where
    below : (n : ℕ) → n < 256 → nat_le 256 n ≡ false
    below n h = grind (arith, nat_tests)

pub without_socket-with_pairs : (v : RoomSets) (s : ℕ) (rooms : List (List ℕ)) → without_socket (with_pairs v s rooms) s ≡ without_socket v s
without_socket-with_pairs v s rooms =
    let same : set.retain (with_pairs v s rooms).pairs (λ p. not (eq_by_cmp nat_cmp s p.0)) ≡ set.retain v.pairs (λ p. not (eq_by_cmp nat_cmp s p.0)) =
    same_set pair_cmp_total pair_cmp-IsAntisymmetric _ _
    (λ q. is_in-without_socket (with_pairs v s rooms) s q.0 q.1
    ∙ ap (λ b. not (eq_by_cmp nat_cmp s q.0) && b) (is_in-with_pairs v s rooms q.0 q.1)
    ∙ gone (eq_by_cmp nat_cmp s q.0) (list_any (eq_by_cmp room_cmp q.1) rooms) (set.contains v.pairs q)
    ∙ sym (is_in-without_socket v s q.0 q.1)) in
    λ i. record { sockets = set.remove v.sockets s; pairs = same i }
  where
    gone : (e a o : Bool) → (not e && ((e && a) || o)) ≡ (not e && o)
    gone true a o = refl
    gone false a o = refl

-- ---- a socket that isn't there yet

module _ (v : RoomSets) (s : ℕ) (known : (q : ℕ) (w : List ℕ) → is_in v q w ≡ true → is_socket v q ≡ true) (unknown : is_socket v s ≡ false) where
  in_no_room : (w : List ℕ) → is_in v s w ≡ false
  in_no_room w = same_bool (is_in v s w) false (λ h. sym unknown ∙ known s w h) (λ f. absurd (true≢false (sym f)))

  pub few_with_socket : HasFewRooms v → HasFewRooms (with_socket v s)
  few_with_socket few q =
      few_of_same (with_pair v s (own_room s)) (with_socket v s) q (few_with_pair v s (own_room s) few (ap (nat_le 256) none)) (λ w. refl)
    where
      none : set.len (rooms_in v s) ≡ 0
      none = ap set.len (rooms_are v s set.empty (λ w. in_no_room w ∙ sym (contains-empty room_cmp w))) ∙ len-empty room_cmp

  -- it ends again, and all is as it was
  pub without_socket-with_socket : without_socket (with_socket v s) s ≡ v
  without_socket-with_socket =
      let sockets_same : set.remove (set.insert v.sockets s) s ≡ v.sockets =
      same_set nat_cmp_total nat_cmp-IsAntisymmetric (set.remove (set.insert v.sockets s) s) v.sockets
      (λ q. contains-remove nat_cmp_total (set.insert v.sockets s) s q
      ∙ ap (λ b. not (eq_by_cmp nat_cmp q s) && b) (contains-insert nat_cmp_total v.sockets s q)
      ∙ taken_back_bool (eq_by_cmp nat_cmp q s) (set.contains v.sockets q) (λ e. ap (set.contains v.sockets) (nat_tied q s e) ∙ unknown)) in
      let pairs_same : set.retain (with_socket v s).pairs (λ p. not (eq_by_cmp nat_cmp s p.0)) ≡ v.pairs =
      same_set pair_cmp_total pair_cmp-IsAntisymmetric _ v.pairs
      (λ q. is_in-without_socket (with_socket v s) s q.0 q.1
      ∙ ap (λ b. not (eq_by_cmp nat_cmp s q.0) && b) (is_in-with_pair v s (own_room s) q.0 q.1)
      ∙ back (eq_by_cmp nat_cmp s q.0) (eq_by_cmp room_cmp (own_room s) q.1) (set.contains v.pairs q) (λ e. ap (λ k. is_in v k q.1) (sym (nat_tied s q.0 e)) ∙ in_no_room q.1)) in
      λ i. record { sockets = sockets_same i; pairs = pairs_same i }
    where
      back : (e c o : Bool) → (e ≡ true → o ≡ false) → (not e && ((e && c) || o)) ≡ o
      back true c o h = sym (h refl)
      back false c o h = refl

  -- the rooms of a new socket
  pub rooms_of_new : (rooms : List (List ℕ)) → rooms_in (with_socket_in v s rooms) s ≡ set.from_list (own_room s ∷ rooms)
  rooms_of_new rooms =
      rooms_are (with_socket_in v s rooms) s (set.from_list (own_room s ∷ rooms))
      (λ w. is_in-with_pairs (with_socket v s) s rooms s w
      ∙ ap (λ b. (eq_by_cmp nat_cmp s s && list_any (eq_by_cmp room_cmp w) rooms) || b) (is_in-with_pair v s (own_room s) s w)
      ∙ ap (λ b. (b && list_any (eq_by_cmp room_cmp w) rooms) || ((b && eq_by_cmp room_cmp (own_room s) w) || is_in v s w)) (nat_itself s)
      ∙ ap (λ b. list_any (eq_by_cmp room_cmp w) rooms || (eq_by_cmp room_cmp (own_room s) w || b)) (in_no_room w)
      ∙ ap (λ b. list_any (eq_by_cmp room_cmp w) rooms || (b || false)) ((eq_by_cmp_equiv nat_list_cmp_total).symm (own_room s) w)
      ∙ turned (list_any (eq_by_cmp room_cmp w) rooms) (eq_by_cmp room_cmp w (own_room s))
      ∙ sym (contains-from_list nat_list_cmp_total (own_room s ∷ rooms) w))
    where
      turned : (a c : Bool) → (a || (c || false)) ≡ (c || a)
      turned true true = refl
      turned true false = refl
      turned false true = refl
      turned false false = refl

  pub few_of_new : (rooms : List (List ℕ)) → are_too_many s rooms ≡ false → set.len (rooms_in (with_socket_in v s rooms) s) ≤ 256
  few_of_new rooms few = let e = ap set.len (rooms_of_new rooms) in let h = at_most_256 (set.len (set.from_list {R = room_cmp} (own_room s ∷ rooms))) few in omega (arith, e, h)
    where
      at_most_256 : (n : ℕ) → nat_lt 256 n ≡ false → n ≤ 256
      at_most_256 n h = grind (arith, nat_tests)

-- ---- the rooms that were listed

-- those of a socket are few enough to enter with them all
pub few_listed : (v : RoomSets) (s : ℕ) (rooms : List (List ℕ)) → AreConsistent v → is_socket v s ≡ true → ((w : List ℕ) → list_any (eq_by_cmp room_cmp w) rooms ≡ is_in v s w) → are_too_many s rooms ≡ false
few_listed v s rooms facts here exactly =
    few (set.len (set.from_list {R = room_cmp} (own_room s ∷ rooms)))
    (let bound = facts.few_rooms s in let same = ap set.len (rooms_are v s (set.from_list (own_room s ∷ rooms)) own_is_in) in omega (arith, bound, same))
  where
    few : (n : ℕ) → n ≤ 256 → nat_lt 256 n ≡ false
    few n h = grind (arith, nat_tests)

    own_is_in : (w : List ℕ) → is_in v s w ≡ set.contains (set.from_list {R = room_cmp} (own_room s ∷ rooms)) w
    own_is_in w =
        sym (added_again_bool (eq_by_cmp room_cmp w (own_room s)) (is_in v s w) (λ e. ap (is_in v s) (room_tied w (own_room s) e) ∙ facts.own_rooms s here))
        ∙ ap (λ b. eq_by_cmp room_cmp w (own_room s) || b) (sym (exactly w))
        ∙ sym (contains-from_list nat_list_cmp_total (own_room s ∷ rooms) w)
