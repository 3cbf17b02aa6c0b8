use Rattle.std.proofs.Common.{◌≡◌, drop}
use Rattle.switchboard.specs.Telling.{begins_with_end}
use Rattle.switchboard.proofs.telling.begins_with_end.Given as goal

abbrev pub invariant-loop-byte : goal.invariant-loop-byte
invariant-loop-byte l = begins_with_end l.byte-items ≡ begins_with_end (drop l.byte-index l.byte-items)
