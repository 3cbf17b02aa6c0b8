-- Who is a socket and who is in which room after each change, for the crates above.
use Rattle.std.proofs.Common.{◌≡◌, ℕ, Bool, true, false, ◌&&◌, ◌||◌, not, List, ◌∷◌, nat_eq, nat_cmp, refl, ap, ◌∙◌, subst}
use Rattle.std.specs.Ordering.{eq_by_cmp}
use Rattle.std.specs.Cmp.{nat_eq_equiv}
use Rattle.std.specs.List.{list_any}
use Rattle.std.specs.Cmp.Lexicographic.{nat_list_eq_equiv}
use Rattle.std.proofs.lemmas.Bool.{eqb-true}
use Rattle.std.specs.FinSet.{contains-empty}
use Rattle.terms.specs.Room.{room_cmp, same_room, own_room}
use Rattle.room_maps.specs.Membership.{RoomSets, pair_cmp, is_socket, is_in, no_sockets, is_named, with_pair, without_pair, with_members, without_members, with_socket, with_socket_in, without_socket}
use Rattle.room_maps.proofs.BooleanLemmas.{same_bool}
use Rattle.room_maps.proofs.OrderLemmas.{nat_tied, nat_itself, same_room-cmp}
use Rattle.room_maps.proofs.MembershipLemmas as by_order

nat_eq-cmp : (s q : ℕ) → eq_by_cmp nat_cmp s q ≡ nat_eq s q
nat_eq-cmp s q =
    same_bool (eq_by_cmp nat_cmp s q) (nat_eq s q)
    (λ e. subst (λ z. nat_eq s z ≡ true) (nat_tied s q e) (nat_eq_equiv.refl s))
    (λ e. subst (λ z. eq_by_cmp nat_cmp s z ≡ true) (nat_eq_is s q e) (nat_itself s))
  where
    nat_eq_is : (s q : ℕ) → nat_eq s q ≡ true → s ≡ q
    nat_eq_is s q e = eqb-true s q e

same_pair : (s : ℕ) (r : List ℕ) (q : ℕ) (w : List ℕ) → (eq_by_cmp nat_cmp s q && eq_by_cmp room_cmp r w) ≡ (nat_eq s q && same_room r w)
same_pair s r q w i = nat_eq-cmp s q i && same_room-cmp r w i

same_pairs : (sids : List ℕ) (r : List ℕ) (q : ℕ) (w : List ℕ) → (is_named sids q && eq_by_cmp room_cmp r w) ≡ (list_any (nat_eq q) sids && same_room r w)
same_pairs sids r q w i = list_any (λ s. nat_eq-cmp q s i) sids && same_room-cmp r w i

pub is_socket-no_sockets : (q : ℕ) → is_socket no_sockets q ≡ false
is_socket-no_sockets q = contains-empty nat_cmp q

pub is_in-no_sockets : (q : ℕ) (w : List ℕ) → is_in no_sockets q w ≡ false
is_in-no_sockets q w = contains-empty pair_cmp (q, w)

pub is_socket-with_pair : (v : RoomSets) (s : ℕ) (r : List ℕ) (q : ℕ) → is_socket (with_pair v s r) q ≡ is_socket v q
is_socket-with_pair v s r q = refl

pub is_in-with_pair : (v : RoomSets) (s : ℕ) (r : List ℕ) (q : ℕ) (w : List ℕ) → is_in (with_pair v s r) q w ≡ ((nat_eq s q && same_room r w) || is_in v q w)
is_in-with_pair v s r q w = by_order.is_in-with_pair v s r q w ∙ ap (λ b. b || is_in v q w) (same_pair s r q w)

pub is_socket-without_pair : (v : RoomSets) (s : ℕ) (r : List ℕ) (q : ℕ) → is_socket (without_pair v s r) q ≡ is_socket v q
is_socket-without_pair v s r q = refl

pub is_in-without_pair : (v : RoomSets) (s : ℕ) (r : List ℕ) (q : ℕ) (w : List ℕ) → is_in (without_pair v s r) q w ≡ (not (nat_eq s q && same_room r w) && is_in v q w)
is_in-without_pair v s r q w = by_order.is_in-without_pair v s r q w ∙ ap (λ b. not b && is_in v q w) (same_pair s r q w)

-- a socket is named where it is one of these
pub named-is : (sids : List ℕ) (q : ℕ) → is_named sids q ≡ list_any (nat_eq q) sids
named-is sids q = ap (λ p. list_any p sids) (λ i s. nat_eq-cmp q s i)

pub is_socket-with_members : (v : RoomSets) (sids : List ℕ) (r : List ℕ) (q : ℕ) → is_socket (with_members v sids r) q ≡ is_socket v q
is_socket-with_members v sids r q = refl

pub is_in-with_members : (v : RoomSets) (sids : List ℕ) (r : List ℕ) (q : ℕ) (w : List ℕ) → is_in (with_members v sids r) q w ≡ ((list_any (nat_eq q) sids && same_room r w) || is_in v q w)
is_in-with_members v sids r q w = by_order.is_in-with_members v sids r q w ∙ ap (λ b. b || is_in v q w) (same_pairs sids r q w)

pub is_socket-without_members : (v : RoomSets) (sids : List ℕ) (r : List ℕ) (q : ℕ) → is_socket (without_members v sids r) q ≡ is_socket v q
is_socket-without_members v sids r q = refl

pub is_in-without_members : (v : RoomSets) (sids : List ℕ) (r : List ℕ) (q : ℕ) (w : List ℕ) → is_in (without_members v sids r) q w ≡ (not (list_any (nat_eq q) sids && same_room r w) && is_in v q w)
is_in-without_members v sids r q w = by_order.is_in-without_members v sids r q w ∙ ap (λ b. not b && is_in v q w) (same_pairs sids r q w)

pub is_socket-with_socket : (v : RoomSets) (s q : ℕ) → is_socket (with_socket v s) q ≡ (nat_eq s q || is_socket v q)
is_socket-with_socket v s q = by_order.is_socket-with_socket v s q ∙ ap (λ b. b || is_socket v q) (nat_eq-cmp s q)

pub is_in-with_socket : (v : RoomSets) (s q : ℕ) (w : List ℕ) → is_in (with_socket v s) q w ≡ ((nat_eq s q && same_room (own_room s) w) || is_in v q w)
is_in-with_socket v s q w = is_in-with_pair v s (own_room s) q w

pub is_socket-with_socket_in : (v : RoomSets) (s : ℕ) (rooms : List (List ℕ)) (q : ℕ) → is_socket (with_socket_in v s rooms) q ≡ (nat_eq s q || is_socket v q)
is_socket-with_socket_in v s rooms q = is_socket-with_socket v s q

pub is_in-with_socket_in : (v : RoomSets) (s : ℕ) (rooms : List (List ℕ)) (q : ℕ) (w : List ℕ) → is_in (with_socket_in v s rooms) q w ≡ ((nat_eq s q && list_any (same_room w) (own_room s ∷ rooms)) || is_in v q w)
is_in-with_socket_in v s rooms q w =
    by_order.is_in-with_pairs (with_socket v s) s rooms q w
    ∙ ap (λ b. (b && list_any (eq_by_cmp room_cmp w) rooms) || is_in (with_socket v s) q w) (nat_eq-cmp s q)
    ∙ ap (λ p. (nat_eq s q && list_any p rooms) || is_in (with_socket v s) q w) (λ i r. same_room-cmp w r i)
    ∙ ap (λ b. (nat_eq s q && list_any (same_room w) rooms) || b) (is_in-with_socket v s q w)
    ∙ ap (λ b. (nat_eq s q && list_any (same_room w) rooms) || ((nat_eq s q && b) || is_in v q w)) (turned w)
    ∙ together (nat_eq s q) (list_any (same_room w) rooms) (same_room w (own_room s)) (is_in v q w)
  where
    turned : (w : List ℕ) → same_room (own_room s) w ≡ same_room w (own_room s)
    turned w = nat_list_eq_equiv.symm (own_room s) w

    together : (e a c o : Bool) → ((e && a) || ((e && c) || o)) ≡ ((e && (c || a)) || o)
    together false a c o = refl
    together true true true o = refl
    together true true false o = refl
    together true false true o = refl
    together true false false o = refl

pub is_socket-without_socket : (v : RoomSets) (s q : ℕ) → is_socket (without_socket v s) q ≡ (not (nat_eq s q) && is_socket v q)
is_socket-without_socket v s q = by_order.is_socket-without_socket v s q ∙ ap (λ b. not b && is_socket v q) (nat_eq-cmp s q)

pub is_in-without_socket : (v : RoomSets) (s q : ℕ) (w : List ℕ) → is_in (without_socket v s) q w ≡ (not (nat_eq s q) && is_in v q w)
is_in-without_socket v s q w = by_order.is_in-without_socket v s q w ∙ ap (λ b. not b && is_in v q w) (nat_eq-cmp s q)
