-- The two maps after one pair more or less, or after a socket's end.
use Rattle.std.proofs.Common.{◌≡◌, ◌≢◌, ℕ, Bool, true, false, ◌&&◌, ◌||◌, not, cond, List, [], length, is_some, IfSome, refl, sym, ap, ◌∙◌, subst, nat_cmp, true≢false, BTreeSet}
use Rattle.std.specs.Prelude.{Option, None, Some}
use Rattle.std.specs.Ordering.{eq_by_cmp}
use Rattle.std.specs.Cmp.{nat_cmp_total, eq_by_cmp_equiv, Equal-is}
use Rattle.std.specs.Cmp.Lexicographic.{nat_list_cmp_total}
use Rattle.std.specs.List.{flat_map, list_any}
use Rattle.std.specs.List.Sorted.{IsStrictlySortedBy}
use Rattle.std.specs.Map.{keys_of}
use Rattle.std.specs.FinSet as set
use Rattle.std.specs.FinSet.{nat_cmp-IsAntisymmetric, contains-insert, contains-remove, contains-from_list, contains-retain, same_set}
use Rattle.std.specs.BTreeMap as tree
use Rattle.std.proofs.lemmas.Map.Made.{is_some-lookup}
use Rattle.terms.specs.Room.{room_cmp, same_room, own_room}
use Rattle.room_maps.specs.Links.{is_linked, is_in_some, HasNoEmptySet, IsUnchanged, AddsLink}
use Rattle.room_maps.specs.Membership.{pair_cmp, RoomSets, rooms_in, with_pair, with_socket, without_pair, without_socket, no_sockets, HasFewRooms, AreConsistent}
use Rattle.room_maps.specs.Mirror.{SocketMap, RoomMap, rooms_at, pairs_at, sockets_of, pairs_of, sets_of, Mirror, IsMirrored}
use Rattle.room_maps.proofs.BooleanLemmas.{or_right, and_comm, both_true, right, left, not_both, same_bool}
use Rattle.room_maps.proofs.OrderLemmas.{pair_cmp_total, room_cmp-IsAntisymmetric, pair_cmp-IsAntisymmetric, then-eq, nat_tied, room_tied, nat_itself, room_itself, eq-pair, same_room-cmp, list_any-map, list_any-and, list_any-flat_map, list_any-at, len-from_sorted}
use Rattle.room_maps.proofs.LinksLemmas.{linked_key, filled_by, some_link, keys_of_links, none_linked}
use Rattle.room_maps.proofs.MembershipLemmas.{contains-rooms_in}

any_room : (r : List ℕ) (o : Option (BTreeSet (List ℕ))) → list_any (eq_by_cmp room_cmp r) (rooms_at o) ≡ is_in_some room_cmp o r
any_room r None = refl
any_room r (Some s) = refl

-- ---- the two sets of a map of sockets

pub contains-sockets_of : (a : SocketMap) (s : ℕ) → set.contains (sockets_of a) s ≡ is_some (tree.get nat_cmp a s)
unfolding sockets_of
contains-sockets_of a s = contains-from_list nat_cmp_total (tree.keys a) s ∙ sym (is_some-lookup (eq_by_cmp nat_cmp s) a.entries)

pub contains-pairs_of : (a : SocketMap) (s : ℕ) (r : List ℕ) → set.contains (pairs_of a) (s, r) ≡ is_linked nat_cmp room_cmp a s r
unfolding pairs_of
contains-pairs_of a s r =
    contains-from_list pair_cmp_total _ (s, r)
    ∙ list_any-flat_map (eq_by_cmp pair_cmp (s, r)) (pairs_at a) (tree.keys a)
    ∙ ap (λ p. list_any p (tree.keys a)) (λ i k. at k i)
    ∙ list_any-at (eq_by_cmp nat_cmp s) (λ k. is_linked nat_cmp room_cmp a k r) (is_linked nat_cmp room_cmp a s r)
    (λ k e. ap (λ k. is_linked nat_cmp room_cmp a k r) (sym (nat_cmp-IsAntisymmetric s k ((Equal-is _).0 e)))) (tree.keys a)
    ∙ ap (λ b. b && is_linked nat_cmp room_cmp a s r) (sym (is_some-lookup (eq_by_cmp nat_cmp s) a.entries))
    ∙ known (tree.get nat_cmp a s)
  where
    known : (o : Option (BTreeSet (List ℕ))) → (is_some o && is_in_some room_cmp o r) ≡ is_in_some room_cmp o r
    known None = refl
    known (Some s) = refl

    at : (k : ℕ) → list_any (eq_by_cmp pair_cmp (s, r)) (pairs_at a k) ≡ (eq_by_cmp nat_cmp s k && is_linked nat_cmp room_cmp a k r)
    at k =
        list_any-map (eq_by_cmp pair_cmp (s, r)) (λ r. (k, r)) (rooms_at (tree.get nat_cmp a k))
        ∙ ap (λ p. list_any p (rooms_at (tree.get nat_cmp a k))) (λ i q. then-eq (nat_cmp s k) (room_cmp r q) i)
        ∙ list_any-and (eq_by_cmp nat_cmp s k) (eq_by_cmp room_cmp r) (rooms_at (tree.get nat_cmp a k))
        ∙ ap (λ b. eq_by_cmp nat_cmp s k && b) (any_room r (tree.get nat_cmp a k))

-- ---- the mirror, from the links of the two maps

pub mirror : (a : SocketMap) (b : RoomMap)
    → ((s : ℕ) (r : List ℕ) → is_linked room_cmp nat_cmp b r s ≡ is_linked nat_cmp room_cmp a s r)
    → ((s : ℕ) → is_some (tree.get nat_cmp a s) ≡ true → is_linked nat_cmp room_cmp a s (own_room s) ≡ true)
    → HasNoEmptySet room_cmp b
    → Mirror a b (pairs_of a)
mirror a b same own filled = record {
  sockets_side = λ s r. sym (contains-pairs_of a s r);
  rooms_side = λ s r. same s r ∙ sym (contains-pairs_of a s r);
  own_rooms = λ s known. contains-pairs_of a s (own_room s) ∙ own s known;
  no_empty_room = filled;
}

pub mirrored : (a : SocketMap) (b : RoomMap) → Mirror a b (pairs_of a) → (s : ℕ) (r : List ℕ) → is_linked room_cmp nat_cmp b r s ≡ is_linked nat_cmp room_cmp a s r
mirrored a b h s r = h.rooms_side s r ∙ contains-pairs_of a s r

own_link : (a : SocketMap) (b : RoomMap) → Mirror a b (pairs_of a) → (s : ℕ) → is_some (tree.get nat_cmp a s) ≡ true → is_linked nat_cmp room_cmp a s (own_room s) ≡ true
own_link a b h s known = sym (contains-pairs_of a s (own_room s)) ∙ h.own_rooms s known

pub filled_sockets : (a : SocketMap) (b : RoomMap) → Mirror a b (pairs_of a) → HasNoEmptySet nat_cmp a
filled_sockets a b h = λ q. filled_by room_cmp (tree.get nat_cmp a q) (own_room q) (own_link a b h q)

-- ---- the changes of the two sets

pub pairs_added : (a n : SocketMap) (s : ℕ) (r : List ℕ) → AddsLink nat_cmp room_cmp a n s r → pairs_of n ≡ set.insert (pairs_of a) (s, r)
pairs_added a n s r h =
    same_set pair_cmp_total pair_cmp-IsAntisymmetric (pairs_of n) (set.insert (pairs_of a) (s, r))
    (λ q. contains-pairs_of n q.0 q.1
    ∙ h.links q.0 q.1
    ∙ ap (λ b. (eq_by_cmp nat_cmp s q.0 && eq_by_cmp room_cmp r q.1) || b) (sym (contains-pairs_of a q.0 q.1))
    ∙ ap (λ b. b || set.contains (pairs_of a) q) (sym (eq-pair s r q))
    ∙ sym (contains-insert pair_cmp_total (pairs_of a) (s, r) q))

pub pairs_removed : (a n : SocketMap) (s : ℕ) (r : List ℕ)
    → ((q : ℕ) (w : List ℕ) → is_linked nat_cmp room_cmp n q w ≡ (not (eq_by_cmp nat_cmp s q && eq_by_cmp room_cmp r w) && is_linked nat_cmp room_cmp a q w))
    → pairs_of n ≡ set.remove (pairs_of a) (s, r)
pairs_removed a n s r h =
    same_set pair_cmp_total pair_cmp-IsAntisymmetric (pairs_of n) (set.remove (pairs_of a) (s, r))
    (λ q. contains-pairs_of n q.0 q.1
    ∙ h q.0 q.1
    ∙ ap (λ b. not (eq_by_cmp nat_cmp s q.0 && eq_by_cmp room_cmp r q.1) && b) (sym (contains-pairs_of a q.0 q.1))
    ∙ ap (λ b. not b && set.contains (pairs_of a) q) (sym (eq-pair s r q))
    ∙ sym (contains-remove pair_cmp_total (pairs_of a) (s, r) q))

pairs_same : (a n : SocketMap) → ((q : ℕ) (w : List ℕ) → is_linked nat_cmp room_cmp n q w ≡ is_linked nat_cmp room_cmp a q w) → pairs_of n ≡ pairs_of a
pairs_same a n h =
    same_set pair_cmp_total pair_cmp-IsAntisymmetric (pairs_of n) (pairs_of a) (λ q. contains-pairs_of n q.0 q.1 ∙ h q.0 q.1 ∙ sym (contains-pairs_of a q.0 q.1))

sockets_same : (a n : SocketMap) → ((q : ℕ) → is_some (tree.get nat_cmp n q) ≡ is_some (tree.get nat_cmp a q)) → sockets_of n ≡ sockets_of a
sockets_same a n h =
    same_set nat_cmp_total nat_cmp-IsAntisymmetric (sockets_of n) (sockets_of a) (λ q. contains-sockets_of n q ∙ h q ∙ sym (contains-sockets_of a q))

sockets_added : (a n : SocketMap) (s : ℕ) → ((q : ℕ) → is_some (tree.get nat_cmp n q) ≡ (eq_by_cmp nat_cmp s q || is_some (tree.get nat_cmp a q))) → sockets_of n ≡ set.insert (sockets_of a) s
sockets_added a n s h =
    same_set nat_cmp_total nat_cmp-IsAntisymmetric (sockets_of n) (set.insert (sockets_of a) s)
    (λ q. contains-sockets_of n q
    ∙ h q
    ∙ ap (λ b. eq_by_cmp nat_cmp s q || b) (sym (contains-sockets_of a q))
    ∙ ap (λ b. b || set.contains (sockets_of a) q) ((eq_by_cmp_equiv nat_cmp_total).symm s q)
    ∙ sym (contains-insert nat_cmp_total (sockets_of a) s q))

-- a key that is there already adds none
keys_kept : (a n : SocketMap) (s : ℕ) (r : List ℕ) → AddsLink nat_cmp room_cmp a n s r → is_some (tree.get nat_cmp a s) ≡ true → (q : ℕ) → is_some (tree.get nat_cmp n q) ≡ is_some (tree.get nat_cmp a q)
keys_kept a n s r h known q = h.keys q ∙ at (eq_by_cmp nat_cmp s q) (λ e. ap (λ k. is_some (tree.get nat_cmp a k)) (sym (nat_tied s q e)) ∙ known)
  where
    at : (b : Bool) → (b ≡ true → is_some (tree.get nat_cmp a q) ≡ true) → (b || is_some (tree.get nat_cmp a q)) ≡ is_some (tree.get nat_cmp a q)
    at true e = sym (e refl)
    at false e = refl

pub sets_unchanged : (a n : SocketMap) → IsUnchanged nat_cmp room_cmp a n → sets_of n ≡ sets_of a
sets_unchanged a n h i = record { sockets = sockets_same a n h.1 i; pairs = pairs_same a n h.0 i }

pub sets_with_pair : (a n : SocketMap) (s : ℕ) (r : List ℕ) → AddsLink nat_cmp room_cmp a n s r → set.contains (sockets_of a) s ≡ true → sets_of n ≡ with_pair (sets_of a) s r
sets_with_pair a n s r h known i = record {
  sockets = sockets_same a n (keys_kept a n s r h (sym (contains-sockets_of a s) ∙ known)) i;
  pairs = pairs_added a n s r h i;
}

pub sets_with_socket : (a n : SocketMap) (s : ℕ) → AddsLink nat_cmp room_cmp a n s (own_room s) → sets_of n ≡ with_socket (sets_of a) s
sets_with_socket a n s h i = record { sockets = sockets_added a n s h.keys i; pairs = pairs_added a n s (own_room s) h i }

-- ---- the pair that was added is taken back

pub taken_back : (a m n : SocketMap) (s : ℕ) (r : List ℕ)
    → HasNoEmptySet nat_cmp a → HasNoEmptySet nat_cmp n
    → is_linked nat_cmp room_cmp a s r ≡ false
    → AddsLink nat_cmp room_cmp a m s r
    → ((q : ℕ) (w : List ℕ) → is_linked nat_cmp room_cmp n q w ≡ (not (eq_by_cmp nat_cmp s q && eq_by_cmp room_cmp r w) && is_linked nat_cmp room_cmp m q w))
    → IsUnchanged nat_cmp room_cmp a n
taken_back a m n s r fa fn absent added removed = (links, λ q. keys_of_links room_cmp nat_list_cmp_total (tree.get nat_cmp a q) (tree.get nat_cmp n q) (fa q) (fn q) (links q))
  where
    back : (b c d : Bool) → (b ≡ true → c ≡ true → d ≡ false) → (not (b && c) && ((b && c) || d)) ≡ d
    back true true d h = sym (h refl refl)
    back true false d h = refl
    back false c d h = refl

    links : (q : ℕ) (w : List ℕ) → is_linked nat_cmp room_cmp n q w ≡ is_linked nat_cmp room_cmp a q w
    links q w =
        removed q w
        ∙ ap (λ b. not (eq_by_cmp nat_cmp s q && eq_by_cmp room_cmp r w) && b) (added.links q w)
        ∙ back _ _ _ (λ e f. (λ i. is_linked nat_cmp room_cmp a (sym (nat_tied s q e) i) (sym (room_tied r w f) i)) ∙ absent)

-- ---- the mirror is kept

own_added : (a n : SocketMap) (s : ℕ) (r : List ℕ) → AddsLink nat_cmp room_cmp a n s r
    → ((q : ℕ) → is_some (tree.get nat_cmp a q) ≡ true → is_linked nat_cmp room_cmp a q (own_room q) ≡ true)
    → is_linked nat_cmp room_cmp n s (own_room s) ≡ true
    → (q : ℕ) → is_some (tree.get nat_cmp n q) ≡ true → is_linked nat_cmp room_cmp n q (own_room q) ≡ true
own_added a n s r h own here q known = at (eq_by_cmp nat_cmp s q) (nat_tied s q) (sym (h.keys q) ∙ known)
  where
    at : (b : Bool) → (b ≡ true → s ≡ q) → (b || is_some (tree.get nat_cmp a q)) ≡ true → is_linked nat_cmp room_cmp n q (own_room q) ≡ true
    at true e k = subst (λ q. is_linked nat_cmp room_cmp n q (own_room q) ≡ true) (e refl) here
    at false e k = h.links q (own_room q) ∙ or_right _ _ (own q k)

mirror_added : (a n : SocketMap) (b m : RoomMap) (s : ℕ) (r : List ℕ) → Mirror a b (pairs_of a)
    → AddsLink nat_cmp room_cmp a n s r → AddsLink room_cmp nat_cmp b m r s
    → is_linked nat_cmp room_cmp n s (own_room s) ≡ true
    → HasNoEmptySet room_cmp m
    → Mirror n m (pairs_of n)
mirror_added a n b m s r h adds other here filled =
    mirror n m
    (λ q w. other.links w q
    ∙ ap (λ x. x || is_linked room_cmp nat_cmp b w q) (and_comm (eq_by_cmp room_cmp r w) (eq_by_cmp nat_cmp s q))
    ∙ ap (λ x. (eq_by_cmp nat_cmp s q && eq_by_cmp room_cmp r w) || x) (mirrored a b h q w)
    ∙ sym (adds.links q w))
    (own_added a n s r adds (own_link a b h) here)
    filled

-- a socket that is there is in one room more
pub mirror_with_pair : (a n : SocketMap) (b m : RoomMap) (s : ℕ) (r : List ℕ) → Mirror a b (pairs_of a)
    → AddsLink nat_cmp room_cmp a n s r → AddsLink room_cmp nat_cmp b m r s
    → set.contains (sockets_of a) s ≡ true
    → HasNoEmptySet room_cmp m
    → Mirror n m (pairs_of n)
mirror_with_pair a n b m s r h adds other known filled =
    mirror_added a n b m s r h adds other
    (adds.links s (own_room s) ∙ or_right (eq_by_cmp nat_cmp s s && eq_by_cmp room_cmp r (own_room s)) (is_linked nat_cmp room_cmp a s (own_room s)) (own_link a b h s (sym (contains-sockets_of a s) ∙ known)))
    filled

-- a new socket is in its own room
pub mirror_with_socket : (a n : SocketMap) (b m : RoomMap) (s : ℕ) → Mirror a b (pairs_of a)
    → AddsLink nat_cmp room_cmp a n s (own_room s) → AddsLink room_cmp nat_cmp b m (own_room s) s
    → HasNoEmptySet room_cmp m
    → Mirror n m (pairs_of n)
mirror_with_socket a n b m s h adds other filled =
    mirror_added a n b m s (own_room s) h adds other
    (adds.links s (own_room s) ∙ ap (λ b. b || is_linked nat_cmp room_cmp a s (own_room s)) (both_true (eq_by_cmp nat_cmp s s) (eq_by_cmp room_cmp (own_room s) (own_room s)) (nat_itself s) (room_itself (own_room s))))
    filled

pub mirror_unchanged : (a n : SocketMap) (b m : RoomMap) → Mirror a b (pairs_of a) → IsUnchanged nat_cmp room_cmp a n → IsUnchanged room_cmp nat_cmp b m → HasNoEmptySet room_cmp m → Mirror n m (pairs_of n)
mirror_unchanged a n b m h ua ub filled =
    mirror n m
    (λ s r. ub.0 r s ∙ mirrored a b h s r ∙ sym (ua.0 s r))
    (λ s known. ua.0 s (own_room s) ∙ own_link a b h s (sym (ua.1 s) ∙ known))
    filled

-- ---- the sockets that pass a test leave a room, which isn't their own one

module _ (a n : SocketMap) (b : RoomMap) (test : ℕ → Bool) (r : List ℕ) (h : Mirror a b (pairs_of a))
    (removes : (q : ℕ) (w : List ℕ) → is_linked nat_cmp room_cmp n q w ≡ (not (test q && eq_by_cmp room_cmp r w) && is_linked nat_cmp room_cmp a q w))
    (apart : (q : ℕ) → test q ≡ true → same_room (own_room q) r ≡ false)
    (fn : HasNoEmptySet nat_cmp n) where
  was_key : (q : ℕ) → is_some (tree.get nat_cmp n q) ≡ true → is_some (tree.get nat_cmp a q) ≡ true
  was_key q here =
      let l = some_link room_cmp nat_list_cmp_total (tree.get nat_cmp n q) (fn q) here in
      linked_key room_cmp (tree.get nat_cmp a q) l.0
      (right (not (test q && eq_by_cmp room_cmp r l.0)) (is_linked nat_cmp room_cmp a q l.0) (sym (removes q l.0) ∙ l.1))

  -- a socket is still in its own room
  own_stays : (q : ℕ) → is_some (tree.get nat_cmp a q) ≡ true → is_linked nat_cmp room_cmp n q (own_room q) ≡ true
  own_stays q was =
      removes q (own_room q)
      ∙ both_true (not (test q && eq_by_cmp room_cmp r (own_room q))) (is_linked nat_cmp room_cmp a q (own_room q))
      (not_both (test q) (eq_by_cmp room_cmp r (own_room q)) (λ e. (eq_by_cmp_equiv nat_list_cmp_total).symm r (own_room q) ∙ same_room-cmp (own_room q) r ∙ apart q e))
      (own_link a b h q was)

  sockets_stay : sockets_of n ≡ sockets_of a
  sockets_stay =
      sockets_same a n
      (λ q. same_bool (is_some (tree.get nat_cmp n q)) (is_some (tree.get nat_cmp a q)) (was_key q) (λ was. linked_key room_cmp (tree.get nat_cmp n q) (own_room q) (own_stays q was)))

  mirror_left : (m : RoomMap)
      → ((w : List ℕ) (q : ℕ) → is_linked room_cmp nat_cmp m w q ≡ (not (eq_by_cmp room_cmp r w && test q) && is_linked room_cmp nat_cmp b w q))
      → HasNoEmptySet room_cmp m
      → Mirror n m (pairs_of n)
  mirror_left m other fm =
      mirror n m
      (λ q w. other w q
      ∙ ap (λ x. not x && is_linked room_cmp nat_cmp b w q) (and_comm (eq_by_cmp room_cmp r w) (test q))
      ∙ ap (λ x. not (test q && eq_by_cmp room_cmp r w) && x) (mirrored a b h q w)
      ∙ sym (removes q w))
      (λ q here. own_stays q (was_key q here))
      fm

-- one socket leaves a room
module _ (a n : SocketMap) (b : RoomMap) (s : ℕ) (r : List ℕ) (h : Mirror a b (pairs_of a))
    (removes : (q : ℕ) (w : List ℕ) → is_linked nat_cmp room_cmp n q w ≡ (not (eq_by_cmp nat_cmp s q && eq_by_cmp room_cmp r w) && is_linked nat_cmp room_cmp a q w))
    (apart : same_room (own_room s) r ≡ false)
    (fn : HasNoEmptySet nat_cmp n) where
  apart_from : (q : ℕ) → eq_by_cmp nat_cmp s q ≡ true → same_room (own_room q) r ≡ false
  apart_from q e = ap (λ k. same_room (own_room k) r) (sym (nat_tied s q e)) ∙ apart

  pub sets_without_pair : sets_of n ≡ without_pair (sets_of a) s r
  sets_without_pair i = record { sockets = sockets_stay a n b (eq_by_cmp nat_cmp s) r h removes apart_from fn i; pairs = pairs_removed a n s r removes i }

  pub mirror_without_pair : (m : RoomMap)
      → ((w : List ℕ) (q : ℕ) → is_linked room_cmp nat_cmp m w q ≡ (not (eq_by_cmp room_cmp r w && eq_by_cmp nat_cmp s q) && is_linked room_cmp nat_cmp b w q))
      → HasNoEmptySet room_cmp m
      → Mirror n m (pairs_of n)
  mirror_without_pair = mirror_left a n b (eq_by_cmp nat_cmp s) r h removes apart_from fn

-- ---- a socket ends

module _ (a n : SocketMap) (s : ℕ) (gone : (q : ℕ) → tree.get nat_cmp n q ≡ cond (eq_by_cmp nat_cmp s q) None (tree.get nat_cmp a q)) where
  links_ended : (q : ℕ) (w : List ℕ) → is_linked nat_cmp room_cmp n q w ≡ (not (eq_by_cmp nat_cmp s q) && is_linked nat_cmp room_cmp a q w)
  links_ended q w =
      ap (λ o. is_in_some room_cmp o w) (gone q)
      ∙ elim (eq_by_cmp nat_cmp s q) as (λ b. is_in_some room_cmp (cond b None (tree.get nat_cmp a q)) w ≡ (not b && is_linked nat_cmp room_cmp a q w)) [ true ↦ refl | false ↦ refl ]

  keys_ended : (q : ℕ) → is_some (tree.get nat_cmp n q) ≡ (not (eq_by_cmp nat_cmp s q) && is_some (tree.get nat_cmp a q))
  keys_ended q =
      ap is_some (gone q)
      ∙ elim (eq_by_cmp nat_cmp s q) as (λ b. is_some (cond b None (tree.get nat_cmp a q)) ≡ (not b && is_some (tree.get nat_cmp a q))) [ true ↦ refl | false ↦ refl ]

  sockets_ended : sockets_of n ≡ set.remove (sockets_of a) s
  sockets_ended =
      same_set nat_cmp_total nat_cmp-IsAntisymmetric (sockets_of n) (set.remove (sockets_of a) s)
      (λ q. contains-sockets_of n q
      ∙ keys_ended q
      ∙ ap (λ b. not b && is_some (tree.get nat_cmp a q)) ((eq_by_cmp_equiv nat_cmp_total).symm s q)
      ∙ ap (λ b. not (eq_by_cmp nat_cmp q s) && b) (sym (contains-sockets_of a q))
      ∙ sym (contains-remove nat_cmp_total (sockets_of a) s q))

  pairs_ended : pairs_of n ≡ set.retain (pairs_of a) (λ p. not (eq_by_cmp nat_cmp s p.0))
  pairs_ended =
      same_set pair_cmp_total pair_cmp-IsAntisymmetric (pairs_of n) (set.retain (pairs_of a) (λ p. not (eq_by_cmp nat_cmp s p.0)))
      (λ q. contains-pairs_of n q.0 q.1
      ∙ links_ended q.0 q.1
      ∙ and_comm (not (eq_by_cmp nat_cmp s q.0)) (is_linked nat_cmp room_cmp a q.0 q.1)
      ∙ ap (λ b. b && not (eq_by_cmp nat_cmp s q.0)) (sym (contains-pairs_of a q.0 q.1))
      ∙ sym (contains-retain (pairs_of a) (λ p. not (eq_by_cmp nat_cmp s p.0)) q (λ x e. ap (λ p. not (eq_by_cmp nat_cmp s p.0)) (sym (pair_cmp-IsAntisymmetric q x e)))))

  pub sets_without_socket : sets_of n ≡ without_socket (sets_of a) s
  sets_without_socket i = record { sockets = sockets_ended i; pairs = pairs_ended i }

  pub mirror_without_socket : (b m : RoomMap) (f : List ℕ → Bool) → Mirror a b (pairs_of a)
      → ((w : List ℕ) → f w ≡ is_linked nat_cmp room_cmp a s w)
      → ((w : List ℕ) (q : ℕ) → is_linked room_cmp nat_cmp m w q ≡ (not (f w && eq_by_cmp nat_cmp s q) && is_linked room_cmp nat_cmp b w q))
      → HasNoEmptySet room_cmp m
      → Mirror n m (pairs_of n)
  mirror_without_socket b m f h was other filled =
      mirror n m
      (λ q w. other w q
      ∙ ap (λ x. not (f w && eq_by_cmp nat_cmp s q) && x) (mirrored a b h q w)
      ∙ at (f w) (eq_by_cmp nat_cmp s q) (is_linked nat_cmp room_cmp a q w) (λ e. was w ∙ ap (λ k. is_linked nat_cmp room_cmp a k w) (nat_tied s q e))
      ∙ sym (links_ended q w))
      (λ q here.
      let both = sym (keys_ended q) ∙ here in
      links_ended q (own_room q)
      ∙ both_true (not (eq_by_cmp nat_cmp s q)) (is_linked nat_cmp room_cmp a q (own_room q))
      (left (not (eq_by_cmp nat_cmp s q)) (is_some (tree.get nat_cmp a q)) both)
      (own_link a b h q (right (not (eq_by_cmp nat_cmp s q)) (is_some (tree.get nat_cmp a q)) both)))
      filled
    where
      at : (f b l : Bool) → (b ≡ true → f ≡ l) → (not (f && b) && l) ≡ (not b && l)
      at true true l e = refl
      at true false l e = refl
      at false true l e = sym (e refl)
      at false false l e = refl

-- ---- nothing yet

pub mirror_empty : (a : SocketMap) (b : RoomMap) → a.entries ≡ [] → b.entries ≡ [] → Mirror a b (pairs_of a)
mirror_empty a b ea eb =
    mirror a b
    (λ s r. ap (λ o. is_in_some nat_cmp o s) (none_linked room_cmp b eb r) ∙ sym (ap (λ o. is_in_some room_cmp o r) (none_linked nat_cmp a ea s)))
    (λ s known. absurd (true≢false (sym known ∙ ap is_some (none_linked nat_cmp a ea s))))
    (λ r. subst (λ o. IfSome o (λ s. s.keys ≢ [])) (sym (none_linked room_cmp b eb r)) tt)

pub sets_empty : (a : SocketMap) → a.entries ≡ [] → sets_of a ≡ no_sockets
unfolding sockets_of pairs_of
sets_empty a e i = record { sockets = set.from_list (keys_of (e i)); pairs = ap (λ es. set.from_list (flat_map (pairs_at a) (keys_of es))) e i }

-- ---- what is not there

pub not_linked : (a : SocketMap) (s : ℕ) (r : List ℕ) → set.contains (sockets_of a) s ≡ false → is_linked nat_cmp room_cmp a s r ≡ false
not_linked a s r unknown = at (tree.get nat_cmp a s) (sym (contains-sockets_of a s) ∙ unknown)
  where
    at : (o : Option (BTreeSet (List ℕ))) → is_some o ≡ false → is_in_some room_cmp o r ≡ false
    at None e = refl
    at (Some s) e = absurd (true≢false e)

-- ---- how many rooms a socket is in

pub room_count_of : (a : SocketMap) (v : RoomSets) (s : ℕ) → v.pairs ≡ pairs_of a → (o : Option (BTreeSet (List ℕ))) → tree.get nat_cmp a s ≡ o → IsStrictlySortedBy room_cmp (rooms_at o) → set.len (rooms_in v s) ≡ length (rooms_at o)
room_count_of a v s is o e h =
    ap set.len
    (same_set nat_list_cmp_total room_cmp-IsAntisymmetric (rooms_in v s) (set.from_list (rooms_at o))
    (λ r. contains-rooms_in v s r
    ∙ ap (λ p. set.contains p (s, r)) is
    ∙ contains-pairs_of a s r
    ∙ ap (λ o. is_in_some room_cmp o r) e
    ∙ sym (any_room r o)
    ∙ sym (contains-from_list nat_list_cmp_total (rooms_at o) r)))
    ∙ len-from_sorted nat_list_cmp_total (rooms_at o) h

-- ---- what every `Rooms` keeps

-- only sockets are in rooms
pub known_of : (a : SocketMap) (s : ℕ) (r : List ℕ) → set.contains (pairs_of a) (s, r) ≡ true → set.contains (sockets_of a) s ≡ true
known_of a s r h = contains-sockets_of a s ∙ linked_key room_cmp (tree.get nat_cmp a s) r (sym (contains-pairs_of a s r) ∙ h)

pub consistent_of : (a : SocketMap) (b : RoomMap) → Mirror a b (pairs_of a) → HasFewRooms (sets_of a) → AreConsistent (sets_of a)
consistent_of a b h few = record {
  own_rooms = λ s known. h.own_rooms s (sym (contains-sockets_of a s) ∙ known);
  known = known_of a;
  few_rooms = few;
}

pub mirrored_of : (a : SocketMap) (b : RoomMap) → Mirror a b (pairs_of a) → IsMirrored (sets_of a) a b
mirrored_of a b h = record {
  sockets = λ s. sym (contains-sockets_of a s);
  pairs = h;
  no_empty_socket = filled_sockets a b h;
}
