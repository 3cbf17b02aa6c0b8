use Rattle.std.proofs.Common.{rules, ◌≡◌}
use Rattle.hub_state.proofs.InSpaceLemmas.{ended_sockets-in}
use Rattle.hub_state.proofs.state.State.ended_sockets.Goals as goal

pub returns-clause-in_spaces : goal.returns-clause-in_spaces
returns-clause-in_spaces c =
    let h = c.args.self.now in
    let is : c.as_slice.result.now ≡ c.self.inside.ended_sockets.items = search rules in
    rw (← c.self.view_is, is, c.self.invariant.4) (ended_sockets-in c.self.inside.base c.self.inside.limits c.self.inside.records.steps.steps c.self.invariant.1)
