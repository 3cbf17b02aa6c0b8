use Rattle.std.proofs.Common.{◌≡◌, map, take}
use Rattle.std.specs.Arc.{arc_value}
use Rattle.hub_state.proofs.client.Outbox.share_first.Given as goal

abbrev pub invariant-loop-index : goal.invariant-loop-index
invariant-loop-index l = map arc_value l.entries.items ≡ map arc_value (take l.index l.self-inside.ring.items)
