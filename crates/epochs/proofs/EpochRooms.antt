-- The rooms stay consistent by each change of them.
use Rattle.std.proofs.Common.{◌≡◌, ◌⊎◌, ℕ, ◌≤◌, Bool, true, false, not, ◌&&◌, ◌||◌, List, [], ◌∷◌, refl, sym, ◌∙◌, ap, subst, arith, nat_eq, inl, inr}
use Rattle.std.specs.List.{list_any}
use Rattle.std.specs.FinSet as set
use Rattle.std.proofs.lemmas.Bool.{eqb-true, eq-eqb}
use Rattle.terms.specs.Room.{same_room, own_room}
use Rattle.room_maps.specs.Membership.{RoomSets, is_socket, is_in, rooms_in, with_pair, without_pair, with_members, without_members, with_socket, with_socket_in, without_socket, is_full, are_too_many, AreConsistent}
use Rattle.room_maps.proofs.MembershipLemmas.{same_rooms, with_pair-again, few_with_pair, few_without_pair, few_without_socket, few_with_socket, few_of_new}
use Rattle.room_maps.proofs.MembershipLaws.{is_socket-with_pair, is_in-with_pair, is_socket-without_pair, is_in-without_pair, is_socket-with_members, is_in-with_members, is_socket-without_members, is_in-without_members, is_socket-with_socket, is_in-with_socket, is_socket-with_socket_in, is_in-with_socket_in, is_socket-without_socket, is_in-without_socket}
use Rattle.room_maps.proofs.OrderLemmas.{same_room_is, same_room_itself}
use Rattle.journal.specs.declared.socket.Socket.{Socket}
use Rattle.journal.specs.Membership.{without_sockets}
use Rattle.journal.proofs.ManySocketsLemmas.{both-true}

either : (a b : Bool) → (a || b) ≡ true → (a ≡ true) ⊎ (b ≡ true)
either true b e = inl refl
either false b e = inr e

left-one : (a b : Bool) → a ≡ true → (a || b) ≡ true
left-one true b e = refl
left-one false b e = absurd (cc e)

right-one : (a b : Bool) → b ≡ true → (a || b) ≡ true
right-one true b e = refl
right-one false b e = e

outside : (a b : Bool) → a ≡ false → b ≡ true → (not a && b) ≡ true
outside true b e h = absurd (cc e)
outside false b e h = h

-- the same socket
itself : (s : ℕ) → nat_eq s s ≡ true
itself s = eq-eqb s s refl

module _ (v : RoomSets) (fine : AreConsistent v) where
  pub pair-fine : (s : ℕ) (room : List ℕ) → is_socket v s ≡ true → is_full v s ≡ false → AreConsistent (with_pair v s room)
  pair-fine s room here space = record {
    own_rooms = λ q is. is_in-with_pair v s room q (own_room q) ∙ right-one (nat_eq s q && same_room room (own_room q)) (is_in v q (own_room q)) (fine.own_rooms q (sym (is_socket-with_pair v s room q) ∙ is));
    known = λ q w is. is_socket-with_pair v s room q ∙ on q w (either (nat_eq s q && same_room room w) (is_in v q w) (sym (is_in-with_pair v s room q w) ∙ is));
    few_rooms = few_with_pair v s room fine.few_rooms space;
  }
    where
      on : (q : ℕ) (w : List ℕ) → ((nat_eq s q && same_room room w) ≡ true) ⊎ (is_in v q w ≡ true) → is_socket v q ≡ true
      on q w (inl e) = subst (λ (x : ℕ). is_socket v x ≡ true) (eqb-true s q (both-true (nat_eq s q) (same_room room w) e).0) here
      on q w (inr e) = fine.known q w e

  pub no-pair-fine : (s : ℕ) (room : List ℕ) → same_room (own_room s) room ≡ false → AreConsistent (without_pair v s room)
  no-pair-fine s room other = record {
    own_rooms = λ q is. is_in-without_pair v s room q (own_room q) ∙ outside (nat_eq s q && same_room room (own_room q)) (is_in v q (own_room q)) (apart q (nat_eq s q) (same_room room (own_room q)) refl refl) (fine.own_rooms q (sym (is_socket-without_pair v s room q) ∙ is));
    known = λ q w is. is_socket-without_pair v s room q ∙ fine.known q w (both-true (not (nat_eq s q && same_room room w)) (is_in v q w) (sym (is_in-without_pair v s room q w) ∙ is)).1;
    few_rooms = few_without_pair v s room fine.few_rooms;
  }
    where
      apart : (q : ℕ) (a b : Bool) → nat_eq s q ≡ a → same_room room (own_room q) ≡ b → (a && b) ≡ false
      apart q false b e h = refl
      apart q true false e h = refl
      apart q true true e h =
          absurd (cc (other, ap (λ (r : List ℕ). same_room (own_room s) r) (same_room_is room (own_room q) h) ∙ ap (λ (x : ℕ). same_room (own_room s) (own_room x)) (sym (eqb-true s q e)), same_room_itself (own_room s)))

  pub members-fine : (sids : List ℕ) (room : List ℕ) → ((q : ℕ) → list_any (nat_eq q) sids ≡ true → (is_socket v q ≡ true) × ((is_in v q room ≡ true) ⊎ (is_full v q ≡ false))) → AreConsistent (with_members v sids room)
  members-fine sids room here = record {
    own_rooms = λ q is. is_in-with_members v sids room q (own_room q) ∙ right-one (list_any (nat_eq q) sids && same_room room (own_room q)) (is_in v q (own_room q)) (fine.own_rooms q (sym (is_socket-with_members v sids room q) ∙ is));
    known = λ q w is. is_socket-with_members v sids room q ∙ on q w (either (list_any (nat_eq q) sids && same_room room w) (is_in v q w) (sym (is_in-with_members v sids room q w) ∙ is));
    few_rooms = λ q. few q (list_any (nat_eq q) sids) refl;
  }
    where
      on : (q : ℕ) (w : List ℕ) → ((list_any (nat_eq q) sids && same_room room w) ≡ true) ⊎ (is_in v q w ≡ true) → is_socket v q ≡ true
      on q w (inl e) = (here q (both-true (list_any (nat_eq q) sids) (same_room room w) e).0).0
      on q w (inr e) = fine.known q w e

      one : (q : ℕ) → (is_in v q room ≡ true) ⊎ (is_full v q ≡ false) → set.len (rooms_in (with_pair v q room) q) ≤ 256
      one q (inl e) = subst (λ (u : RoomSets). set.len (rooms_in u q) ≤ 256) (sym (with_pair-again v q room e)) (fine.few_rooms q)
      one q (inr e) = few_with_pair v q room fine.few_rooms e q

      few : (q : ℕ) (b : Bool) → list_any (nat_eq q) sids ≡ b → set.len (rooms_in (with_members v sids room) q) ≤ 256
      few q false e = let same = same_rooms v (with_members v sids room) q (λ w. is_in-with_members v sids room q w ∙ ap (λ (b : Bool). (b && same_room room w) || is_in v q w) e) in let bound = fine.few_rooms q in omega (arith, same, bound)
      few q true e =
          let same = same_rooms (with_pair v q room) (with_members v sids room) q
          (λ w. is_in-with_members v sids room q w ∙ ap (λ (b : Bool). (b && same_room room w) || is_in v q w) (e ∙ sym (itself q)) ∙ sym (is_in-with_pair v q room q w)) in
          let bound = one q (here q e).1 in omega (arith, same, bound)

  pub no-members-fine : (sids : List ℕ) (room : List ℕ) → ((q : ℕ) → list_any (nat_eq q) sids ≡ true → same_room room (own_room q) ≡ false) → AreConsistent (without_members v sids room)
  no-members-fine sids room other = record {
    own_rooms = λ q is. is_in-without_members v sids room q (own_room q)
        ∙ outside (list_any (nat_eq q) sids && same_room room (own_room q)) (is_in v q (own_room q)) (apart (list_any (nat_eq q) sids) (same_room room (own_room q)) (other q)) (fine.own_rooms q (sym (is_socket-without_members v sids room q) ∙ is));
    known = λ q w is. is_socket-without_members v sids room q ∙ fine.known q w (both-true (not (list_any (nat_eq q) sids && same_room room w)) (is_in v q w) (sym (is_in-without_members v sids room q w) ∙ is)).1;
    few_rooms = λ q. few q (list_any (nat_eq q) sids) refl;
  }
    where
      few : (q : ℕ) (b : Bool) → list_any (nat_eq q) sids ≡ b → set.len (rooms_in (without_members v sids room) q) ≤ 256
      few q false e = let same = same_rooms v (without_members v sids room) q (λ w. is_in-without_members v sids room q w ∙ ap (λ (b : Bool). not (b && same_room room w) && is_in v q w) e) in let bound = fine.few_rooms q in omega (arith, same, bound)
      few q true e =
          let same = same_rooms (without_pair v q room) (without_members v sids room) q
          (λ w. is_in-without_members v sids room q w ∙ ap (λ (b : Bool). not (b && same_room room w) && is_in v q w) (e ∙ sym (itself q)) ∙ sym (is_in-without_pair v q room q w)) in
          let bound = few_without_pair v q room fine.few_rooms q in omega (arith, same, bound)

      apart : (a b : Bool) → (a ≡ true → b ≡ false) → (a && b) ≡ false
      apart true b h = h refl
      apart false b h = refl

  pub no-socket-fine : (s : ℕ) → AreConsistent (without_socket v s)
  no-socket-fine s = record {
    own_rooms = λ q is. let both = both-true (not (nat_eq s q)) (is_socket v q) (sym (is_socket-without_socket v s q) ∙ is) in is_in-without_socket v s q (own_room q) ∙ (λ i. both.0 i && fine.own_rooms q both.1 i);
    known = λ q w is. let both = both-true (not (nat_eq s q)) (is_in v q w) (sym (is_in-without_socket v s q w) ∙ is) in is_socket-without_socket v s q ∙ (λ i. both.0 i && fine.known q w both.1 i);
    few_rooms = few_without_socket v s fine.few_rooms;
  }

  module _ (s : ℕ) (unknown : is_socket v s ≡ false) where
    pub socket-fine : AreConsistent (with_socket v s)
    socket-fine = record {
      own_rooms = λ q is. is_in-with_socket v s q (own_room q) ∙ own q (either (nat_eq s q) (is_socket v q) (sym (is_socket-with_socket v s q) ∙ is));
      known = λ q w is. is_socket-with_socket v s q ∙ on q w (either (nat_eq s q && same_room (own_room s) w) (is_in v q w) (sym (is_in-with_socket v s q w) ∙ is));
      few_rooms = few_with_socket v s fine.known unknown fine.few_rooms;
    }
      where
        own : (q : ℕ) → (nat_eq s q ≡ true) ⊎ (is_socket v q ≡ true) → ((nat_eq s q && same_room (own_room s) (own_room q)) || is_in v q (own_room q)) ≡ true
        own q (inl e) = left-one (nat_eq s q && same_room (own_room s) (own_room q)) (is_in v q (own_room q)) ((λ i. e i && same_room (own_room s) (own_room q)) ∙ ap (λ (x : ℕ). same_room (own_room s) (own_room x)) (sym (eqb-true s q e)) ∙ same_room_itself (own_room s))
        own q (inr e) = right-one (nat_eq s q && same_room (own_room s) (own_room q)) (is_in v q (own_room q)) (fine.own_rooms q e)

        on : (q : ℕ) (w : List ℕ) → ((nat_eq s q && same_room (own_room s) w) ≡ true) ⊎ (is_in v q w ≡ true) → (nat_eq s q || is_socket v q) ≡ true
        on q w (inl e) = left-one (nat_eq s q) (is_socket v q) (both-true (nat_eq s q) (same_room (own_room s) w) e).0
        on q w (inr e) = right-one (nat_eq s q) (is_socket v q) (fine.known q w e)

    pub socket-in-fine : (rooms : List (List ℕ)) → are_too_many s rooms ≡ false → AreConsistent (with_socket_in v s rooms)
    socket-in-fine rooms few = record {
      own_rooms = λ q is. is_in-with_socket_in v s rooms q (own_room q) ∙ own q (either (nat_eq s q) (is_socket v q) (sym (is_socket-with_socket_in v s rooms q) ∙ is));
      known = λ q w is. is_socket-with_socket_in v s rooms q ∙ on q w (either (nat_eq s q && list_any (same_room w) (own_room s ∷ rooms)) (is_in v q w) (sym (is_in-with_socket_in v s rooms q w) ∙ is));
      few_rooms = λ q. count q (nat_eq s q) refl;
    }
      where
        own : (q : ℕ) → (nat_eq s q ≡ true) ⊎ (is_socket v q ≡ true) → ((nat_eq s q && list_any (same_room (own_room q)) (own_room s ∷ rooms)) || is_in v q (own_room q)) ≡ true
        own q (inl e) = left-one (nat_eq s q && list_any (same_room (own_room q)) (own_room s ∷ rooms)) (is_in v q (own_room q))
            ((λ i. e i && list_any (same_room (own_room q)) (own_room s ∷ rooms))
            ∙ left-one (same_room (own_room q) (own_room s)) (list_any (same_room (own_room q)) rooms) (ap (λ (x : ℕ). same_room (own_room x) (own_room s)) (sym (eqb-true s q e)) ∙ same_room_itself (own_room s)))
        own q (inr e) = right-one (nat_eq s q && list_any (same_room (own_room q)) (own_room s ∷ rooms)) (is_in v q (own_room q)) (fine.own_rooms q e)

        on : (q : ℕ) (w : List ℕ) → ((nat_eq s q && list_any (same_room w) (own_room s ∷ rooms)) ≡ true) ⊎ (is_in v q w ≡ true) → (nat_eq s q || is_socket v q) ≡ true
        on q w (inl e) = left-one (nat_eq s q) (is_socket v q) (both-true (nat_eq s q) (list_any (same_room w) (own_room s ∷ rooms)) e).0
        on q w (inr e) = right-one (nat_eq s q) (is_socket v q) (fine.known q w e)

        count : (q : ℕ) (b : Bool) → nat_eq s q ≡ b → set.len (rooms_in (with_socket_in v s rooms) q) ≤ 256
        count q true e = subst (λ (x : ℕ). set.len (rooms_in (with_socket_in v s rooms) x) ≤ 256) (eqb-true s q e) (few_of_new v s fine.known unknown rooms few)
        count q false e = let same = same_rooms v (with_socket_in v s rooms) q (λ w. is_in-with_socket_in v s rooms q w ∙ ap (λ (b : Bool). (b && list_any (same_room w) (own_room s ∷ rooms)) || is_in v q w) e) in let bound = fine.few_rooms q in omega (arith, same, bound)

pub no-sockets-fine : (v : RoomSets) → AreConsistent v → (ks : List Socket) → AreConsistent (without_sockets v ks)
unfolding without_sockets
no-sockets-fine v fine [] = fine
no-sockets-fine v fine (k ∷ ks) = no-sockets-fine (without_socket v k.sid) (no-socket-fine v fine k.sid) ks
