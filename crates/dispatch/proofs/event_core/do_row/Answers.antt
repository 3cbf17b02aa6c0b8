use Rattle.std.proofs.Common.{refl}
use Rattle.dispatch.proofs.event_core.do_row.Goals as goal

pub returns-in-PollEnd : goal.returns-in-PollEnd
returns-in-PollEnd g c = rw c.in-PollEnd.is (c.end.ensures c.args.state.now, refl)

pub returns-in-Probe : goal.returns-in-Probe
returns-in-Probe g c = rw c.in-Probe.is (c.probe.ensures c.args.state.now, refl)

pub returns-in-Upgraded : goal.returns-in-Upgraded
returns-in-Upgraded g c = rw c.in-Upgraded.is (c.upgrade.ensures c.args.state.now, refl)

pub returns-in-ProbeLost : goal.returns-in-ProbeLost
returns-in-ProbeLost g c = rw c.in-ProbeLost.is (c.probe_lost.ensures c.args.state.now, refl)
