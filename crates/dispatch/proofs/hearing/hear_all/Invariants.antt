use Rattle.std.proofs.Common.{◌≡◌, ◌-◌, take, drop, Ok}
use Rattle.hub_state.specs.EndedSockets.{ended_sockets}
use Rattle.dispatch.specs.Hearing.{HearsOf}
use Rattle.dispatch.specs.Runs.{Runs}
use Rattle.dispatch.specs.Broadcasting.{work}
use Rattle.dispatch.proofs.hearing.hear_all.Given as goal

abbrev pub invariant-loop-index : goal.invariant-loop-index
invariant-loop-index g l = record {
  run : Runs (λ a x b. HearsOf (g.A.App.policy l.app) l.visit.client l.visit.moment a x (Ok tt) b) (take (l.index - l.from) (drop l.from (ended_sockets l.fn.state.base l.fn.state.journal)))
      (work l.fn.state l.fn.done) (work l.state l.done);
  same : ended_sockets l.state.base l.state.journal ≡ ended_sockets l.fn.state.base l.fn.state.journal;
}
