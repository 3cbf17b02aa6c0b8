use Rattle.std.proofs.Common.{◌≡◌, ◌++◌}
use Rattle.recovery.proofs.packet_log.PacketLog.list.Given as goal

abbrev pub invariant-loop-entry : goal.invariant-loop-entry
invariant-loop-entry l = l.list.items ++ l.entry-iterator ≡ l.self.entries
