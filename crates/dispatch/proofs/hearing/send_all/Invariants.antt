use Rattle.std.proofs.Common.{◌≡◌, ◌++◌, Ok}
use Rattle.dispatch.specs.Hearing.{Sends}
use Rattle.dispatch.specs.Runs.{Runs}
use Rattle.dispatch.specs.Broadcasting.{work}
use Rattle.dispatch.proofs.hearing.send_all.Given as goal

abbrev pub invariant-loop-effect : goal.invariant-loop-effect
invariant-loop-effect l = record {
  run : Runs (λ a x b. Sends l.fn.visit.client l.fn.visit.moment a x (Ok tt) b) l.yielded (work l.fn.state l.fn.done) (work l.state l.done);
  split : l.fn.effects.items ≡ l.yielded ++ l.effect-iterator.rest.items;
}
