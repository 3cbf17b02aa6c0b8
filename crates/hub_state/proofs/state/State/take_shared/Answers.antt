use Rattle.std.proofs.Common.{rules, refl}
use Rattle.journal.proofs.CommandLemmas.{took, can_take}
use Rattle.hub_state.proofs.EndedLemmas.{hub-of, none-ended, plus}
use Rattle.hub_state.proofs.state.State.take_shared.Goals as goal

pub invariant_of-self-2 : goal.invariant_of-self-2
invariant_of-self-2 c =
    let number = rw (← c.self.view_is) at c.in_ok-number.ensures.number in
    let hub = hub-of c.self.inside c.self.invariant in
    rw (c.add.ensures.steps, c.add.ensures.last, c.reserve.ensures.same, c.add.ensures.counts)
    (plus (took _ _ c.args.client c.args.most c.in_ok-number.number c.args.now _ _ _ _ _ _ _ _ _ _ hub (search rules) number c.hand_out.ensures.left)
    (none-ended _ _ _ _ c.self.invariant.4 refl))

pub add-requires-clause-counted : goal.add-requires-clause-counted
add-requires-clause-counted c = can_take _ _ _ _ c.self.invariant.3 c.self.invariant.2 c.args.client c.args.most c.in_ok-number.number (search rules)
