use Rattle.std.proofs.Common.{◌≡◌, take}
use Rattle.dispatch.specs.Runs.{Runs}
use Rattle.dispatch.specs.Scene.{seen, IsSameEvent, visit_of}
use Rattle.dispatch.specs.Packets.{course, HandlesInTurn}
use Rattle.dispatch.proofs.packets.handle_each.Given as goal

abbrev pub invariant-loop-packet : goal.invariant-loop-packet
invariant-loop-packet g l = record {
  same : IsSameEvent l.fn.scene l.scene;
  run : Runs (HandlesInTurn (g.A.App.policy l.app) (visit_of l.fn.scene.visit)) (take l.packet-index l.packets)
      (course (seen l.fn.scene) (g.I.IdSource.stream l.fn.ids)) (course (seen l.scene) (g.I.IdSource.stream l.ids));
  count : l.count ≡ l.packet-index;
}
