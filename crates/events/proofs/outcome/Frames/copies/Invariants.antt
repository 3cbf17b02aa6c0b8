use Rattle.std.proofs.Common.{◌≡◌, map, take}
use Rattle.std.specs.Arc.{arc_value}
use Rattle.events.specs.Frames.{frames_taken}
use Rattle.events.proofs.outcome.Frames.copies.Given as goal

abbrev pub invariant-loop-entry : goal.invariant-loop-entry
invariant-loop-entry l = l.frames.items ≡ frames_taken l.ping (map arc_value (take l.entry-index l.entries))
