-- Several sockets join a room or leave it, one after another and all at once.
use Rattle.std.proofs.Common.{◌≡◌, ℕ, Bool, true, false, ◌&&◌, ◌||◌, not, ◌<◌, List, [], ◌∷◌, ◌++◌, length, take, drop, get_or, nat_le, refl, sym, ap, ◌∙◌, subst, nat_cmp, true≢false}
use Rattle.std.specs.Prelude.{None}
use Rattle.std.specs.Ordering.{eq_by_cmp}
use Rattle.std.specs.Cmp.{nat_cmp_total, eq_by_cmp_equiv}
use Rattle.std.specs.List.{filter, list_any}
use Rattle.std.proofs.lemmas.List.Folds.{list_any-append, list_any_at}
use Rattle.std.proofs.lemmas.List.{take-append-drop}
use Rattle.terms.specs.Listing.{ListsRising}
use Rattle.terms.specs.Refusal.{first_refusal}
use Rattle.room_maps.specs.declared.error.RoomError.{RoomError}
use Rattle.terms.specs.Room.{room_cmp, same_room, own_room}
use Rattle.room_maps.specs.Membership.{RoomSets, is_socket, is_in, is_full, is_named, with_pair, without_pair, with_members, without_members, has_unknown, has_full, has_own_room, join_all_refusal, leave_all_refusal, AreConsistent}
use Rattle.room_maps.proofs.BooleanLemmas.{left, right, same_bool}
use Rattle.room_maps.proofs.OrderLemmas.{nat_tied, nat_itself, room_tied, room_itself, same_room_is}
use Rattle.room_maps.proofs.AddressedLemmas.{contains-filter}
use Rattle.room_maps.proofs.MembershipLemmas.{same_sets, is_in-with_pair, is_in-without_pair, is_in-with_members, is_in-without_members, same_rooms}

-- ---- one after another

pub named_at : (sids : List ℕ) (i s : ℕ) → i < length sids → s ≡ get_or sids i s → is_named sids s ≡ true
named_at sids i s h is = list_any_at (eq_by_cmp nat_cmp s) sids i s h (ap (eq_by_cmp nat_cmp s) (sym is) ∙ nat_itself s)

pub named-take : (sids : List ℕ) (i q : ℕ) → is_named (take i sids) q ≡ true → is_named sids q ≡ true
named-take sids i q named =
    ap (list_any (eq_by_cmp nat_cmp q)) (sym (take-append-drop i sids))
    ∙ list_any-append (eq_by_cmp nat_cmp q) (take i sids) (drop i sids)
    ∙ ap (λ b. b || is_named (drop i sids) q) named

pub with_members-none : (v : RoomSets) (r : List ℕ) → with_members v [] r ≡ v
with_members-none v r = same_sets (with_members v [] r) v (λ q. refl) (λ q w. is_in-with_members v [] r q w)

one_more_bool : (a c e o : Bool) → (((a || (c || false)) && e) || o) ≡ ((c && e) || ((a && e) || o))
one_more_bool false true e o = refl
one_more_bool false false e o = refl
one_more_bool true false e o = refl
one_more_bool true true true o = refl
one_more_bool true true false o = refl

pub with_members-more : (v : RoomSets) (sids : List ℕ) (s : ℕ) (r : List ℕ) → with_members v (sids ++ s ∷ []) r ≡ with_pair (with_members v sids r) s r
with_members-more v sids s r =
    same_sets (with_members v (sids ++ s ∷ []) r) (with_pair (with_members v sids r) s r) (λ q. refl)
    (λ q w. is_in-with_members v (sids ++ s ∷ []) r q w
    ∙ ap (λ b. (b && eq_by_cmp room_cmp r w) || is_in v q w) (list_any-append (eq_by_cmp nat_cmp q) sids (s ∷ []))
    ∙ one_more_bool (is_named sids q) (eq_by_cmp nat_cmp q s) (eq_by_cmp room_cmp r w) (is_in v q w)
    ∙ ap (λ b. (b && eq_by_cmp room_cmp r w) || ((is_named sids q && eq_by_cmp room_cmp r w) || is_in v q w)) ((eq_by_cmp_equiv nat_cmp_total).symm q s)
    ∙ ap (λ b. (eq_by_cmp nat_cmp s q && eq_by_cmp room_cmp r w) || b) (sym (is_in-with_members v sids r q w))
    ∙ sym (is_in-with_pair (with_members v sids r) s r q w))

pub without_members-none : (v : RoomSets) (r : List ℕ) → without_members v [] r ≡ v
without_members-none v r = same_sets (without_members v [] r) v (λ q. refl) (λ q w. is_in-without_members v [] r q w)

one_less_bool : (a c e o : Bool) → (not ((a || (c || false)) && e) && o) ≡ (not (c && e) && (not (a && e) && o))
one_less_bool false true e o = refl
one_less_bool false false e o = refl
one_less_bool true false e o = refl
one_less_bool true true true o = refl
one_less_bool true true false o = refl

pub without_members-more : (v : RoomSets) (sids : List ℕ) (s : ℕ) (r : List ℕ) → without_members v (sids ++ s ∷ []) r ≡ without_pair (without_members v sids r) s r
without_members-more v sids s r =
    same_sets (without_members v (sids ++ s ∷ []) r) (without_pair (without_members v sids r) s r) (λ q. refl)
    (λ q w. is_in-without_members v (sids ++ s ∷ []) r q w
    ∙ ap (λ b. not (b && eq_by_cmp room_cmp r w) && is_in v q w) (list_any-append (eq_by_cmp nat_cmp q) sids (s ∷ []))
    ∙ one_less_bool (is_named sids q) (eq_by_cmp nat_cmp q s) (eq_by_cmp room_cmp r w) (is_in v q w)
    ∙ ap (λ b. not (b && eq_by_cmp room_cmp r w) && (not (is_named sids q && eq_by_cmp room_cmp r w) && is_in v q w)) ((eq_by_cmp_equiv nat_cmp_total).symm q s)
    ∙ ap (λ b. not (eq_by_cmp nat_cmp s q && eq_by_cmp room_cmp r w) && b) (sym (is_in-without_members v sids r q w))
    ∙ sym (is_in-without_pair (without_members v sids r) s r q w))

-- one who isn't in the room yet has as much space as before
pub is_full-with_members : (v : RoomSets) (sids : List ℕ) (r : List ℕ) (s : ℕ) → is_in (with_members v sids r) s r ≡ false → is_full (with_members v sids r) s ≡ is_full v s
is_full-with_members v sids r s absent =
    ap (nat_le 256)
    (same_rooms v (with_members v sids r) s
    (λ w. is_in-with_members v sids r s w ∙ ap (λ b. (b && eq_by_cmp room_cmp r w) || is_in v s w) (unnamed (is_named sids s) (is_in v s r) (sym added ∙ absent))))
  where
    added : is_in (with_members v sids r) s r ≡ ((is_named sids s && true) || is_in v s r)
    added = is_in-with_members v sids r s r ∙ ap (λ b. (is_named sids s && b) || is_in v s r) (room_itself r)

    unnamed : (a o : Bool) → ((a && true) || o) ≡ false → a ≡ false
    unnamed true o e = absurd (true≢false e)
    unnamed false o e = refl

-- ---- what was added is taken back

-- where some of the sockets were added, and all are taken out again
pub without_members-with_members : (v : RoomSets) (some all : List ℕ) (r : List ℕ) → ((q : ℕ) → is_named some q ≡ true → is_named all q ≡ true) → without_members (with_members v some r) all r ≡ without_members v all r
without_members-with_members v some all r among =
    same_sets (without_members (with_members v some r) all r) (without_members v all r) (λ q. refl)
    (λ q w. is_in-without_members (with_members v some r) all r q w
    ∙ ap (λ b. not (is_named all q && eq_by_cmp room_cmp r w) && b) (is_in-with_members v some r q w)
    ∙ gone (is_named some q) (is_named all q) (eq_by_cmp room_cmp r w) (is_in v q w) (among q)
    ∙ sym (is_in-without_members v all r q w))
  where
    gone : (a b e o : Bool) → (a ≡ true → b ≡ true) → (not (b && e) && ((a && e) || o)) ≡ (not (b && e) && o)
    gone false b e o h = refl
    gone true true true o h = refl
    gone true true false o h = refl
    gone true false e o h = absurd (true≢false (sym (h refl)))

pub without_members-absent : (v : RoomSets) (sids : List ℕ) (r : List ℕ) → ((q : ℕ) → is_named sids q ≡ true → is_in v q r ≡ false) → without_members v sids r ≡ v
without_members-absent v sids r absent =
    same_sets (without_members v sids r) v (λ q. refl)
    (λ q w. is_in-without_members v sids r q w
    ∙ untouched (is_named sids q) (eq_by_cmp room_cmp r w) (is_in v q w) (λ named same. ap (is_in v q) (sym (room_tied r w same)) ∙ absent q named))
  where
    untouched : (a e o : Bool) → (a ≡ true → e ≡ true → o ≡ false) → (not (a && e) && o) ≡ o
    untouched false e o h = refl
    untouched true false o h = refl
    untouched true true o h = sym (h refl refl)

-- ---- the sockets that change

-- a room that a socket isn't in is not its own one
pub not_own_room : (v : RoomSets) (s : ℕ) (r : List ℕ) → AreConsistent v → is_socket v s ≡ true → is_in v s r ≡ false → same_room (own_room s) r ≡ false
not_own_room v s r facts known absent =
    same_bool (same_room (own_room s) r) false (λ e. sym absent ∙ ap (is_in v s) (sym (same_room_is (own_room s) r e)) ∙ facts.own_rooms s known) (λ f. absurd (true≢false (sym f)))

-- the named ones that pass a test, rising
pub chosen : (test : ℕ → Bool) (sids kept ordered : List ℕ) → kept ≡ filter test sids → ListsRising nat_cmp (is_named kept) ordered → ListsRising nat_cmp (λ s. is_named sids s && test s) ordered
chosen test sids kept ordered is h = subst (λ t. ListsRising nat_cmp t ordered) (λ i s. (ap (list_any (eq_by_cmp nat_cmp s)) is ∙ contains-filter s test sids) i) h

-- what none of these passes, no named one does
none_named : (test : ℕ → Bool) (sids : List ℕ) (s : ℕ) → list_any test sids ≡ false → is_named sids s ≡ true → test s ≡ false
none_named test [] s none named = absurd (true≢false (sym named))
none_named test (x ∷ sids) s none named =
    elim (eq_by_cmp nat_cmp s x) as (λ b. eq_by_cmp nat_cmp s x ≡ b → (b || is_named sids s) ≡ true → test s ≡ false) [
      | true ↦ λ e _. ap test (nat_tied s x e) ∙ first (test x) (list_any test sids) none
      | false ↦ λ e rest. none_named test sids s (second (test x) (list_any test sids) none) rest
    ] refl named
  where
    first : (b c : Bool) → (b || c) ≡ false → b ≡ false
    first true c e = absurd (true≢false e)
    first false c e = refl

    second : (b c : Bool) → (b || c) ≡ false → c ≡ false
    second true c e = absurd (true≢false e)
    second false c e = e

not_refused : (b c : Bool) (d e : RoomError) → first_refusal ((b, d) ∷ (c, e) ∷ []) ≡ None → (b ≡ false) × (c ≡ false)
not_refused true c d e h = absurd (cc h)
not_refused false true d e h = absurd (cc h)
not_refused false false d e h = (refl, refl)

not_not : (b : Bool) → not b ≡ false → b ≡ true
not_not true e = refl
not_not false e = absurd (true≢false e)

not_true : (b : Bool) → not b ≡ true → b ≡ false
not_true true e = absurd (true≢false (sym e))
not_true false e = refl

-- those that aren't in the room yet join it
module _ (v : RoomSets) (sids : List ℕ) (r : List ℕ) (outside : List ℕ) (allowed : join_all_refusal v sids r ≡ None) (listed : ListsRising nat_cmp (λ s. is_named sids s && not (is_in v s r)) outside) where
  outside_named : (s : ℕ) → is_named outside s ≡ true → is_named sids s ≡ true
  outside_named s here = left (is_named sids s) (not (is_in v s r)) (sym (listed.exactly s) ∙ here)

  pub outside_absent : (s : ℕ) → is_named outside s ≡ true → is_in v s r ≡ false
  outside_absent s here = not_true (is_in v s r) (right (is_named sids s) (not (is_in v s r)) (sym (listed.exactly s) ∙ here))

  pub outside_known : (s : ℕ) → is_named outside s ≡ true → is_socket v s ≡ true
  outside_known s here =
      not_not (is_socket v s) (none_named (λ s. not (is_socket v s)) sids s (not_refused (has_unknown v sids) (has_full v sids r) _ _ allowed).0 (outside_named s here))

  pub outside_few : (s : ℕ) → is_named outside s ≡ true → is_full v s ≡ false
  outside_few s here =
      sym (ap (λ b. not b && is_full v s) (outside_absent s here))
      ∙ none_named (λ s. not (is_in v s r) && is_full v s) sids s (not_refused (has_unknown v sids) (has_full v sids r) _ _ allowed).1 (outside_named s here)

  pub with_outside : with_members v outside r ≡ with_members v sids r
  with_outside =
      same_sets (with_members v outside r) (with_members v sids r) (λ q. refl)
      (λ q w. is_in-with_members v outside r q w
      ∙ ap (λ b. (b && eq_by_cmp room_cmp r w) || is_in v q w) (listed.exactly q)
      ∙ as_many (is_named sids q) (is_in v q r) (eq_by_cmp room_cmp r w) (is_in v q w) (λ e. ap (is_in v q) (room_tied r w e))
      ∙ sym (is_in-with_members v sids r q w))
    where
      as_many : (a here e o : Bool) → (e ≡ true → here ≡ o) → (((a && not here) && e) || o) ≡ ((a && e) || o)
      as_many false here e o h = refl
      as_many true false e o h = refl
      as_many true true false o h = refl
      as_many true true true o h = sym (h refl)

-- those that are in the room leave it
module _ (v : RoomSets) (sids : List ℕ) (r : List ℕ) (inside : List ℕ) (listed : ListsRising nat_cmp (λ s. is_named sids s && is_in v s r) inside) where
  pub inside_apart : leave_all_refusal v sids r ≡ None → (s : ℕ) → is_named inside s ≡ true → same_room (own_room s) r ≡ false
  inside_apart allowed s here =
      none_named (λ s. same_room (own_room s) r) sids s (not_refused (has_unknown v sids) (has_own_room sids r) _ _ allowed).1 (left (is_named sids s) (is_in v s r) (sym (listed.exactly s) ∙ here))

  pub without_inside : without_members v inside r ≡ without_members v sids r
  without_inside =
      same_sets (without_members v inside r) (without_members v sids r) (λ q. refl)
      (λ q w. is_in-without_members v inside r q w
      ∙ ap (λ b. not (b && eq_by_cmp room_cmp r w) && is_in v q w) (listed.exactly q)
      ∙ as_few (is_named sids q) (is_in v q r) (eq_by_cmp room_cmp r w) (is_in v q w) (λ e. ap (is_in v q) (room_tied r w e))
      ∙ sym (is_in-without_members v sids r q w))
    where
      as_few : (a here e o : Bool) → (e ≡ true → here ≡ o) → (not ((a && here) && e) && o) ≡ (not (a && e) && o)
      as_few false here e o h = refl
      as_few true true e o h = refl
      as_few true false false o h = refl
      as_few true false true o h = sym (h refl)
