use Rattle.hub_state.specs.Seats.{seat_at}
use Rattle.std.proofs.Common.{rules, ◌≡◌, ◌∙◌, ◌∷◌, max, ap, subst, sym, refl, true, None, Some, Err, arith, not}
use Rattle.std.specs.Option.{option_map}
use Rattle.room_maps.specs.Membership.{is_in, with_members, join_all_refusal}
use Rattle.journal.specs.declared.error.HubError.TheVariants.{RoomRefused}
use Rattle.journal.specs.declared.step.What.TheVariants.{AllJoined}
use Rattle.journal.specs.Plain.{PlainRoomChange}
use Rattle.journal.specs.Journal.{with_step}
use Rattle.journal.specs.Membership.{place_of, is_space, rooms}
use Rattle.journal.specs.Totals.{is_spent}
use Rattle.journal.specs.ManySockets.{joining, may_enter, RightJoining}
use Rattle.journal.specs.Refusals.{or_spent, joining_refusal}
use Rattle.journal.specs.Command.{IsErrorOf}
use Rattle.journal.proofs.ManySocketsLemmas.{refused-late, joining-refused, puts_joining, all-joined, can_join_all, all-changed, both-true}
use Rattle.hub_state.proofs.EndedLemmas.{hub-of, none-ended, plus, recorded}
use Rattle.hub_state.proofs.state.State.sockets_join.Goals as goal

pub returns-in-Some-clause-does : goal.returns-in-Some-clause-does
returns-in-Some-clause-does c =
    let base = c.self.inside.base in
    let limits = c.self.inside.limits in
    let journal = c.self.inside.records.steps.steps in
    let m = c.in_ok-change.change in
    let place = place_of limits c.args.space.now in
    let known : is_space limits place ≡ true = rw (← c.self.view_is) at (rw c.in_ok-place.ensures.place at c.in_ok-place.ensures.known) in
    let is : m ≡ joining (record { base = base; limits = limits; journal = journal }) place c.args.rooms.items c.args.excepted.items c.args.room = rw (← c.self.view_is) at (rw c.in_ok-place.ensures.place at c.in_ok-change.ensures.change) in
    let right : RightJoining base journal m = rw (← c.self.view_is) at c.in_ok-change.ensures.right in
    let here : is_space limits m.space ≡ true = ap (λ (m : PlainRoomChange). is_space limits m.space) is ∙ known in
    let asked : c.join_all_refusal.result ≡ join_all_refusal c.self.inside.live.rooms m.changed m.room =
    rw (ap (λ (m : PlainRoomChange). m.room) is) (rw (← c.change.view_is) (rw c.deref.ensures.value at c.join_all_refusal.ensures)) in
    let said : Some (RoomRefused c.in-Some.refusal) ≡ or_spent (joining_refusal base limits journal m) (is_spent base limits journal (AllJoined m)) =
    sym (ap (λ o. or_spent o (is_spent base limits journal (AllJoined m))) (joining-refused base limits journal c.self.invariant.2 c.self.inside.live.rooms c.self.invariant.0.rooms_are m here right ∙ ap (option_map RoomRefused) (sym asked ∙ c.in-Some.is))) in
    rw (← c.self.view_is) (
      subst (λ (m : PlainRoomChange). IsErrorOf (is_space limits m.space) (or_spent (joining_refusal base limits journal m) (is_spent base limits journal (AllJoined m))) (RoomRefused c.in-Some.refusal)) is
          (refused-late (or_spent (joining_refusal base limits journal m) (is_spent base limits journal (AllJoined m))) (is_space limits m.space) _ here said),
      refl,
    )

pub returns-in_err-may_count-clause-does : goal.returns-in_err-may_count-clause-does
returns-in_err-may_count-clause-does c =
    let base = c.self.inside.base in
    let limits = c.self.inside.limits in
    let journal = c.self.inside.records.steps.steps in
    let m = c.in_ok-change.change in
    let place = place_of limits c.args.space.now in
    let known : is_space limits place ≡ true = rw (← c.self.view_is) at (rw c.in_ok-place.ensures.place at c.in_ok-place.ensures.known) in
    let is : m ≡ joining (record { base = base; limits = limits; journal = journal }) place c.args.rooms.items c.args.excepted.items c.args.room = rw (← c.self.view_is) at (rw c.in_ok-place.ensures.place at c.in_ok-change.ensures.change) in
    let right : RightJoining base journal m = rw (← c.self.view_is) at c.in_ok-change.ensures.right in
    let here : is_space limits m.space ≡ true = ap (λ (m : PlainRoomChange). is_space limits m.space) is ∙ known in
    let asked : c.join_all_refusal.result ≡ join_all_refusal c.self.inside.live.rooms m.changed m.room =
    rw (ap (λ (m : PlainRoomChange). m.room) is) (rw (← c.change.view_is) (rw c.deref.ensures.value at c.join_all_refusal.ensures)) in
    let free = joining-refused base limits journal c.self.invariant.2 c.self.inside.live.rooms c.self.invariant.0.rooms_are m here right ∙ ap (option_map RoomRefused) (sym asked ∙ c.in_default.is) in
    let counted = rw (← c.self.view_is) at (c.in_err-may_count.ensures (AllJoined m) (puts_joining c.args.self.now.base c.args.self.now.limits c.args.self.now.journal m) refl (omega arith)) in
    let said = sym (ap (λ o. or_spent o (is_spent base limits journal (AllJoined m))) free ∙ counted) in
    let failed : c.from_residual-in_err-may_count.result ≡ Err c.in_err-may_count.field-0.0 = search rules in
    rw (← c.self.view_is, failed) (
      subst (λ (m : PlainRoomChange). IsErrorOf (is_space limits m.space) (or_spent (joining_refusal base limits journal m) (is_spent base limits journal (AllJoined m))) c.in_err-may_count.field-0.0) is
          (refused-late (or_spent (joining_refusal base limits journal m) (is_spent base limits journal (AllJoined m))) (is_space limits m.space) _ here said),
      refl,
    )

pub invariant_of-self-2 : goal.invariant_of-self-2
invariant_of-self-2 c =
    let base = c.self.inside.base in
    let limits = c.self.inside.limits in
    let journal = c.self.inside.records.steps.steps in
    let m = c.in_ok-change.change in
    let place = place_of limits c.args.space.now in
    let known : is_space limits place ≡ true = rw (← c.self.view_is) at (rw c.in_ok-place.ensures.place at c.in_ok-place.ensures.known) in
    let is : m ≡ joining (record { base = base; limits = limits; journal = journal }) place c.args.rooms.items c.args.excepted.items c.args.room = rw (← c.self.view_is) at (rw c.in_ok-place.ensures.place at c.in_ok-change.ensures.change) in
    let right : RightJoining base journal m = rw (← c.self.view_is) at c.in_ok-change.ensures.right in
    let here : is_space limits m.space ≡ true = ap (λ (m : PlainRoomChange). is_space limits m.space) is ∙ known in
    let asked : c.join_all_refusal.result ≡ join_all_refusal c.self.inside.live.rooms m.changed m.room =
    rw (ap (λ (m : PlainRoomChange). m.room) is) (rw (← c.change.view_is) (rw c.deref.ensures.value at c.join_all_refusal.ensures)) in
    let free = joining-refused base limits journal c.self.invariant.2 c.self.inside.live.rooms c.self.invariant.0.rooms_are m here right ∙ ap (option_map RoomRefused) (sym asked ∙ c.in_default.is) in
    let counted = rw (← c.self.view_is) at (c.in_ok-may_count.ensures (AllJoined m) (puts_joining c.args.self.now.base c.args.self.now.limits c.args.self.now.journal m) refl (omega arith)) in
    let accepted : None ≡ or_spent (joining_refusal base limits journal m) (is_spent base limits journal (AllJoined m)) = sym (ap (λ o. or_spent o (is_spent base limits journal (AllJoined m))) free ∙ counted) in
    let made : c.join_all.new.self ≡ with_members c.self.inside.live.rooms m.changed m.room =
    rw (ap (λ (m : PlainRoomChange). m.room) is) (rw (← c.change.view_is) (rw c.deref-2.ensures.value at c.in-Ok.ensures.joined)) in
    let hub = hub-of c.self.inside c.self.invariant in
    recorded _ _ _ _ _ _ _ _ _ _ _ _ _ _ _ c.add.ensures.last c.add.ensures.counts (c.add.ensures.steps ∙ ap (λ steps. record { at = max c.args.now c.self.inside.records.last; what = AllJoined m } ∷ steps) c.reserve.ensures.same)
    (plus (all-joined _ _ m c.args.now _ _ _ _ _ _ _ _ _ _ hub accepted right made c.kept_facts.ensures)
    (none-ended _ _ _ _ c.self.invariant.4 refl))

pub add-requires-clause-counted : goal.add-requires-clause-counted
add-requires-clause-counted c =
    let base = c.self.inside.base in
    let limits = c.self.inside.limits in
    let journal = c.self.inside.records.steps.steps in
    let m = c.in_ok-change.change in
    let place = place_of limits c.args.space.now in
    let known : is_space limits place ≡ true = rw (← c.self.view_is) at (rw c.in_ok-place.ensures.place at c.in_ok-place.ensures.known) in
    let is : m ≡ joining (record { base = base; limits = limits; journal = journal }) place c.args.rooms.items c.args.excepted.items c.args.room = rw (← c.self.view_is) at (rw c.in_ok-place.ensures.place at c.in_ok-change.ensures.change) in
    let right : RightJoining base journal m = rw (← c.self.view_is) at c.in_ok-change.ensures.right in
    let here : is_space limits m.space ≡ true = ap (λ (m : PlainRoomChange). is_space limits m.space) is ∙ known in
    let asked : c.join_all_refusal.result ≡ join_all_refusal c.self.inside.live.rooms m.changed m.room =
    rw (ap (λ (m : PlainRoomChange). m.room) is) (rw (← c.change.view_is) (rw c.deref.ensures.value at c.join_all_refusal.ensures)) in
    let free = joining-refused base limits journal c.self.invariant.2 c.self.inside.live.rooms c.self.invariant.0.rooms_are m here right ∙ ap (option_map RoomRefused) (sym asked ∙ c.in_default.is) in
    let counted = rw (← c.self.view_is) at (c.in_ok-may_count.ensures (AllJoined m) (puts_joining c.args.self.now.base c.args.self.now.limits c.args.self.now.journal m) refl (omega arith)) in
    let accepted : None ≡ or_spent (joining_refusal base limits journal m) (is_spent base limits journal (AllJoined m)) = sym (ap (λ o. or_spent o (is_spent base limits journal (AllJoined m))) free ∙ counted) in
    can_join_all _ _ _ _ c.self.invariant.3 c.self.invariant.2 m accepted

pub returns-clause-changed : goal.returns-clause-changed
returns-clause-changed c =
    let base = c.self.inside.base in
    let limits = c.self.inside.limits in
    let journal = c.self.inside.records.steps.steps in
    let m = c.in_ok-change.change in
    let place = place_of limits c.args.space.now in
    let is : m ≡ joining (record { base = base; limits = limits; journal = journal }) place c.args.rooms.items c.args.excepted.items c.args.room = rw (← c.self.view_is) at (rw c.in_ok-place.ensures.place at c.in_ok-change.ensures.change) in
    let right : RightJoining base journal m = rw (← c.self.view_is) at c.in_ok-change.ensures.right in
    let changed = rw (c.deref-2.ensures.value, c.self.invariant.0.rooms_are) at c.in-Ok.ensures.changed in
    let all : c.in-Ok.joined.items ≡ m.changed =
    all-changed base limits journal c.self.invariant.2 (seat_at c.self.inside.live.seats) c.self.invariant.0.seats
    (may_enter base journal m.space m.rooms m.excepted m.room) (λ x. not (is_in (rooms base journal) x m.room)) (λ k e. (both-true _ _ e).1)
    m.changed c.in-Ok.joined.items right.changed (rw (ap (λ (m : PlainRoomChange). m.room) is) (rw (← c.change.view_is) changed)) in
    rw (← c.self.view_is) (all ∙ ap (λ (m : PlainRoomChange). m.changed) is)

pub returns-clause-does : goal.returns-clause-does
returns-clause-does c =
    let base = c.self.inside.base in
    let limits = c.self.inside.limits in
    let journal = c.self.inside.records.steps.steps in
    let m = c.in_ok-change.change in
    let place = place_of limits c.args.space.now in
    let known : is_space limits place ≡ true = rw (← c.self.view_is) at (rw c.in_ok-place.ensures.place at c.in_ok-place.ensures.known) in
    let is : m ≡ joining (record { base = base; limits = limits; journal = journal }) place c.args.rooms.items c.args.excepted.items c.args.room = rw (← c.self.view_is) at (rw c.in_ok-place.ensures.place at c.in_ok-change.ensures.change) in
    let right : RightJoining base journal m = rw (← c.self.view_is) at c.in_ok-change.ensures.right in
    let here : is_space limits m.space ≡ true = ap (λ (m : PlainRoomChange). is_space limits m.space) is ∙ known in
    let asked : c.join_all_refusal.result ≡ join_all_refusal c.self.inside.live.rooms m.changed m.room =
    rw (ap (λ (m : PlainRoomChange). m.room) is) (rw (← c.change.view_is) (rw c.deref.ensures.value at c.join_all_refusal.ensures)) in
    let free = joining-refused base limits journal c.self.invariant.2 c.self.inside.live.rooms c.self.invariant.0.rooms_are m here right ∙ ap (option_map RoomRefused) (sym asked ∙ c.in_default.is) in
    let counted = rw (← c.self.view_is) at (c.in_ok-may_count.ensures (AllJoined m) (puts_joining c.args.self.now.base c.args.self.now.limits c.args.self.now.journal m) refl (omega arith)) in
    let accepted : None ≡ or_spent (joining_refusal base limits journal m) (is_spent base limits journal (AllJoined m)) = sym (ap (λ o. or_spent o (is_spent base limits journal (AllJoined m))) free ∙ counted) in
    let same : m ≡ joining c.args.self.now (place_of c.args.self.now.limits c.args.space.now) c.args.rooms.items c.args.excepted.items c.args.room = rw c.in_ok-place.ensures.place at c.in_ok-change.ensures.change in (
      rw (← c.self.view_is) (sym (subst (λ (m : PlainRoomChange). None ≡ or_spent (joining_refusal base limits journal m) (is_spent base limits journal (AllJoined m))) is accepted)),
      (λ i. record {
        base = base;
        limits = limits;
        journal = (c.add.ensures.steps ∙ (λ j. record { at = max c.args.now (c.self.invariant.0.last j); what = AllJoined m } ∷ c.reserve.ensures.same j)) i;
      })
          ∙ ap (λ h. with_step h c.args.now (AllJoined m)) c.self.view_is
          ∙ ap (λ (m : PlainRoomChange). with_step c.args.self.now c.args.now (AllJoined m)) same,
    )
