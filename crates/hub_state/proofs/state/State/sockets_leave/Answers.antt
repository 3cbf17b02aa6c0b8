use Rattle.hub_state.specs.Seats.{seat_at}
use Rattle.std.proofs.Common.{rules, ◌≡◌, ◌∙◌, ◌∷◌, max, ap, subst, sym, refl, true, None, Some, Err, arith}
use Rattle.std.specs.Option.{option_map}
use Rattle.room_maps.specs.Membership.{is_in, without_members, leave_all_refusal}
use Rattle.journal.specs.declared.error.HubError.TheVariants.{RoomRefused}
use Rattle.journal.specs.declared.step.What.TheVariants.{AllLeft}
use Rattle.journal.specs.Plain.{PlainRoomChange}
use Rattle.journal.specs.Journal.{with_step}
use Rattle.journal.specs.Membership.{place_of, is_space, rooms}
use Rattle.journal.specs.Totals.{is_spent}
use Rattle.journal.specs.ManySockets.{leaving, may_exit, RightLeaving}
use Rattle.journal.specs.Refusals.{or_spent, leaving_refusal}
use Rattle.journal.specs.Command.{IsErrorOf}
use Rattle.journal.proofs.ManySocketsLemmas.{refused-late, leaving-refused, puts_leaving, all-left, can_leave_all, all-changed, both-true}
use Rattle.hub_state.proofs.EndedLemmas.{hub-of, none-ended, plus, recorded}
use Rattle.hub_state.proofs.state.State.sockets_leave.Goals as goal

pub returns-in-Some-clause-does : goal.returns-in-Some-clause-does
returns-in-Some-clause-does c =
    let base = c.self.inside.base in
    let limits = c.self.inside.limits in
    let journal = c.self.inside.records.steps.steps in
    let m = c.in_ok-change.change in
    let place = place_of limits c.args.space.now in
    let known : is_space limits place ≡ true = rw (← c.self.view_is) at (rw c.in_ok-place.ensures.place at c.in_ok-place.ensures.known) in
    let is : m ≡ leaving (record { base = base; limits = limits; journal = journal }) place c.args.rooms.items c.args.excepted.items c.args.room = rw (← c.self.view_is) at (rw c.in_ok-place.ensures.place at c.in_ok-change.ensures.change) in
    let right : RightLeaving base journal m = rw (← c.self.view_is) at c.in_ok-change.ensures.right in
    let here : is_space limits m.space ≡ true = ap (λ (m : PlainRoomChange). is_space limits m.space) is ∙ known in
    let asked : c.leave_all_refusal.result ≡ leave_all_refusal c.self.inside.live.rooms m.changed m.room =
    rw (ap (λ (m : PlainRoomChange). m.room) is) (rw (← c.change.view_is) (rw c.deref.ensures.value at c.leave_all_refusal.ensures)) in
    let said : Some (RoomRefused c.in-Some.refusal) ≡ or_spent (leaving_refusal base limits journal m) (is_spent base limits journal (AllLeft m)) =
    sym (ap (λ o. or_spent o (is_spent base limits journal (AllLeft m))) (leaving-refused base limits journal c.self.invariant.2 c.self.inside.live.rooms c.self.invariant.0.rooms_are m here c.kept_facts.ensures right ∙ ap (option_map RoomRefused) (sym asked ∙ c.in-Some.is))) in
    rw (← c.self.view_is) (
      subst (λ (m : PlainRoomChange). IsErrorOf (is_space limits m.space) (or_spent (leaving_refusal base limits journal m) (is_spent base limits journal (AllLeft m))) (RoomRefused c.in-Some.refusal)) is
          (refused-late (or_spent (leaving_refusal base limits journal m) (is_spent base limits journal (AllLeft m))) (is_space limits m.space) _ here said),
      refl,
    )

pub returns-in_err-may_count-clause-does : goal.returns-in_err-may_count-clause-does
returns-in_err-may_count-clause-does c =
    let base = c.self.inside.base in
    let limits = c.self.inside.limits in
    let journal = c.self.inside.records.steps.steps in
    let m = c.in_ok-change.change in
    let place = place_of limits c.args.space.now in
    let known : is_space limits place ≡ true = rw (← c.self.view_is) at (rw c.in_ok-place.ensures.place at c.in_ok-place.ensures.known) in
    let is : m ≡ leaving (record { base = base; limits = limits; journal = journal }) place c.args.rooms.items c.args.excepted.items c.args.room = rw (← c.self.view_is) at (rw c.in_ok-place.ensures.place at c.in_ok-change.ensures.change) in
    let right : RightLeaving base journal m = rw (← c.self.view_is) at c.in_ok-change.ensures.right in
    let here : is_space limits m.space ≡ true = ap (λ (m : PlainRoomChange). is_space limits m.space) is ∙ known in
    let asked : c.leave_all_refusal.result ≡ leave_all_refusal c.self.inside.live.rooms m.changed m.room =
    rw (ap (λ (m : PlainRoomChange). m.room) is) (rw (← c.change.view_is) (rw c.deref.ensures.value at c.leave_all_refusal.ensures)) in
    let free = leaving-refused base limits journal c.self.invariant.2 c.self.inside.live.rooms c.self.invariant.0.rooms_are m here c.kept_facts.ensures right ∙ ap (option_map RoomRefused) (sym asked ∙ c.in_default.is) in
    let counted = rw (← c.self.view_is) at (c.in_err-may_count.ensures (AllLeft m) (puts_leaving c.args.self.now.base c.args.self.now.limits c.args.self.now.journal m) refl (omega arith)) in
    let said = sym (ap (λ o. or_spent o (is_spent base limits journal (AllLeft m))) free ∙ counted) in
    let failed : c.from_residual-in_err-may_count.result ≡ Err c.in_err-may_count.field-0.0 = search rules in
    rw (← c.self.view_is, failed) (
      subst (λ (m : PlainRoomChange). IsErrorOf (is_space limits m.space) (or_spent (leaving_refusal base limits journal m) (is_spent base limits journal (AllLeft m))) c.in_err-may_count.field-0.0) is
          (refused-late (or_spent (leaving_refusal base limits journal m) (is_spent base limits journal (AllLeft m))) (is_space limits m.space) _ here said),
      refl,
    )

pub invariant_of-self-2 : goal.invariant_of-self-2
invariant_of-self-2 c =
    let base = c.self.inside.base in
    let limits = c.self.inside.limits in
    let journal = c.self.inside.records.steps.steps in
    let m = c.in_ok-change.change in
    let place = place_of limits c.args.space.now in
    let known : is_space limits place ≡ true = rw (← c.self.view_is) at (rw c.in_ok-place.ensures.place at c.in_ok-place.ensures.known) in
    let is : m ≡ leaving (record { base = base; limits = limits; journal = journal }) place c.args.rooms.items c.args.excepted.items c.args.room = rw (← c.self.view_is) at (rw c.in_ok-place.ensures.place at c.in_ok-change.ensures.change) in
    let right : RightLeaving base journal m = rw (← c.self.view_is) at c.in_ok-change.ensures.right in
    let here : is_space limits m.space ≡ true = ap (λ (m : PlainRoomChange). is_space limits m.space) is ∙ known in
    let asked : c.leave_all_refusal.result ≡ leave_all_refusal c.self.inside.live.rooms m.changed m.room =
    rw (ap (λ (m : PlainRoomChange). m.room) is) (rw (← c.change.view_is) (rw c.deref.ensures.value at c.leave_all_refusal.ensures)) in
    let free = leaving-refused base limits journal c.self.invariant.2 c.self.inside.live.rooms c.self.invariant.0.rooms_are m here c.kept_facts.ensures right ∙ ap (option_map RoomRefused) (sym asked ∙ c.in_default.is) in
    let counted = rw (← c.self.view_is) at (c.in_ok-may_count.ensures (AllLeft m) (puts_leaving c.args.self.now.base c.args.self.now.limits c.args.self.now.journal m) refl (omega arith)) in
    let accepted : None ≡ or_spent (leaving_refusal base limits journal m) (is_spent base limits journal (AllLeft m)) = sym (ap (λ o. or_spent o (is_spent base limits journal (AllLeft m))) free ∙ counted) in
    let made : c.leave_all.new.self ≡ without_members c.self.inside.live.rooms m.changed m.room =
    rw (ap (λ (m : PlainRoomChange). m.room) is) (rw (← c.change.view_is) (rw c.deref-2.ensures.value at c.in-Ok.ensures.left)) in
    let hub = hub-of c.self.inside c.self.invariant in
    recorded _ _ _ _ _ _ _ _ _ _ _ _ _ _ _ c.add.ensures.last c.add.ensures.counts (c.add.ensures.steps ∙ ap (λ steps. record { at = max c.args.now c.self.inside.records.last; what = AllLeft m } ∷ steps) c.reserve.ensures.same)
    (plus (all-left _ _ m c.args.now _ _ _ _ _ _ _ _ _ _ hub accepted right made c.kept_facts-2.ensures)
    (none-ended _ _ _ _ c.self.invariant.4 refl))

pub add-requires-clause-counted : goal.add-requires-clause-counted
add-requires-clause-counted c =
    let base = c.self.inside.base in
    let limits = c.self.inside.limits in
    let journal = c.self.inside.records.steps.steps in
    let m = c.in_ok-change.change in
    let place = place_of limits c.args.space.now in
    let known : is_space limits place ≡ true = rw (← c.self.view_is) at (rw c.in_ok-place.ensures.place at c.in_ok-place.ensures.known) in
    let is : m ≡ leaving (record { base = base; limits = limits; journal = journal }) place c.args.rooms.items c.args.excepted.items c.args.room = rw (← c.self.view_is) at (rw c.in_ok-place.ensures.place at c.in_ok-change.ensures.change) in
    let right : RightLeaving base journal m = rw (← c.self.view_is) at c.in_ok-change.ensures.right in
    let here : is_space limits m.space ≡ true = ap (λ (m : PlainRoomChange). is_space limits m.space) is ∙ known in
    let asked : c.leave_all_refusal.result ≡ leave_all_refusal c.self.inside.live.rooms m.changed m.room =
    rw (ap (λ (m : PlainRoomChange). m.room) is) (rw (← c.change.view_is) (rw c.deref.ensures.value at c.leave_all_refusal.ensures)) in
    let free = leaving-refused base limits journal c.self.invariant.2 c.self.inside.live.rooms c.self.invariant.0.rooms_are m here c.kept_facts.ensures right ∙ ap (option_map RoomRefused) (sym asked ∙ c.in_default.is) in
    let counted = rw (← c.self.view_is) at (c.in_ok-may_count.ensures (AllLeft m) (puts_leaving c.args.self.now.base c.args.self.now.limits c.args.self.now.journal m) refl (omega arith)) in
    let accepted : None ≡ or_spent (leaving_refusal base limits journal m) (is_spent base limits journal (AllLeft m)) = sym (ap (λ o. or_spent o (is_spent base limits journal (AllLeft m))) free ∙ counted) in
    can_leave_all _ _ _ _ c.self.invariant.3 c.self.invariant.2 m accepted

pub returns-clause-changed : goal.returns-clause-changed
returns-clause-changed c =
    let base = c.self.inside.base in
    let limits = c.self.inside.limits in
    let journal = c.self.inside.records.steps.steps in
    let m = c.in_ok-change.change in
    let place = place_of limits c.args.space.now in
    let is : m ≡ leaving (record { base = base; limits = limits; journal = journal }) place c.args.rooms.items c.args.excepted.items c.args.room = rw (← c.self.view_is) at (rw c.in_ok-place.ensures.place at c.in_ok-change.ensures.change) in
    let right : RightLeaving base journal m = rw (← c.self.view_is) at c.in_ok-change.ensures.right in
    let changed = rw (c.deref-2.ensures.value, c.self.invariant.0.rooms_are) at c.in-Ok.ensures.changed in
    let all : c.in-Ok.left.items ≡ m.changed =
    all-changed base limits journal c.self.invariant.2 (seat_at c.self.inside.live.seats) c.self.invariant.0.seats
    (may_exit base journal m.space m.rooms m.excepted m.room) (λ x. is_in (rooms base journal) x m.room) (λ k e. (both-true _ _ e).1)
    m.changed c.in-Ok.left.items right.changed (rw (ap (λ (m : PlainRoomChange). m.room) is) (rw (← c.change.view_is) changed)) in
    rw (← c.self.view_is) (all ∙ ap (λ (m : PlainRoomChange). m.changed) is)

pub returns-clause-does : goal.returns-clause-does
returns-clause-does c =
    let base = c.self.inside.base in
    let limits = c.self.inside.limits in
    let journal = c.self.inside.records.steps.steps in
    let m = c.in_ok-change.change in
    let place = place_of limits c.args.space.now in
    let known : is_space limits place ≡ true = rw (← c.self.view_is) at (rw c.in_ok-place.ensures.place at c.in_ok-place.ensures.known) in
    let is : m ≡ leaving (record { base = base; limits = limits; journal = journal }) place c.args.rooms.items c.args.excepted.items c.args.room = rw (← c.self.view_is) at (rw c.in_ok-place.ensures.place at c.in_ok-change.ensures.change) in
    let right : RightLeaving base journal m = rw (← c.self.view_is) at c.in_ok-change.ensures.right in
    let here : is_space limits m.space ≡ true = ap (λ (m : PlainRoomChange). is_space limits m.space) is ∙ known in
    let asked : c.leave_all_refusal.result ≡ leave_all_refusal c.self.inside.live.rooms m.changed m.room =
    rw (ap (λ (m : PlainRoomChange). m.room) is) (rw (← c.change.view_is) (rw c.deref.ensures.value at c.leave_all_refusal.ensures)) in
    let free = leaving-refused base limits journal c.self.invariant.2 c.self.inside.live.rooms c.self.invariant.0.rooms_are m here c.kept_facts.ensures right ∙ ap (option_map RoomRefused) (sym asked ∙ c.in_default.is) in
    let counted = rw (← c.self.view_is) at (c.in_ok-may_count.ensures (AllLeft m) (puts_leaving c.args.self.now.base c.args.self.now.limits c.args.self.now.journal m) refl (omega arith)) in
    let accepted : None ≡ or_spent (leaving_refusal base limits journal m) (is_spent base limits journal (AllLeft m)) = sym (ap (λ o. or_spent o (is_spent base limits journal (AllLeft m))) free ∙ counted) in
    let same : m ≡ leaving c.args.self.now (place_of c.args.self.now.limits c.args.space.now) c.args.rooms.items c.args.excepted.items c.args.room = rw c.in_ok-place.ensures.place at c.in_ok-change.ensures.change in (
      rw (← c.self.view_is) (sym (subst (λ (m : PlainRoomChange). None ≡ or_spent (leaving_refusal base limits journal m) (is_spent base limits journal (AllLeft m))) is accepted)),
      (λ i. record {
        base = base;
        limits = limits;
        journal = (c.add.ensures.steps ∙ (λ j. record { at = max c.args.now (c.self.invariant.0.last j); what = AllLeft m } ∷ c.reserve.ensures.same j)) i;
      })
          ∙ ap (λ h. with_step h c.args.now (AllLeft m)) c.self.view_is
          ∙ ap (λ (m : PlainRoomChange). with_step c.args.self.now c.args.now (AllLeft m)) same,
    )
