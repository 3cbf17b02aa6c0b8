use Rattle.std.proofs.Common.{◌≡◌, ◌+◌, ◌++◌, length}
use Rattle.dispatch.specs.Effects.{ActsInTurn, StandsWith}
use Rattle.dispatch.specs.Runs.{Runs}
use Rattle.dispatch.specs.Scene.{seen, IsSameEvent}
use Rattle.dispatch.proofs.effects.act_all.Given as goal

abbrev pub invariant-loop-effect : goal.invariant-loop-effect
invariant-loop-effect l = record {
  same : IsSameEvent l.fn.scene l.scene;
  run : Runs (ActsInTurn l.who l.fn.scene.visit.moment) l.yielded (seen l.fn.scene) (seen l.scene);
  split : l.fn.wanted.items ≡ l.yielded ++ l.effect-iterator.rest.items;
  stands : StandsWith l.who (seen l.scene);
  count : l.effects ≡ l.before + length l.yielded;
}
