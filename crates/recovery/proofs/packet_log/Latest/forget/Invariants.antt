use Rattle.std.proofs.Common.{◌≡◌, drop}
use Rattle.recovery.proofs.packet_log.Latest.forget.Given as goal

abbrev pub invariant-loop-entry : goal.invariant-loop-entry
invariant-loop-entry l = l.self ≡ record l.fn.self { entries = drop l._entry l.fn.self.entries }
