use Rattle.std.proofs.Common.{◌≡◌, ◌++◌}
use Rattle.recovery.proofs.saved_table.SavedTable.list.Given as goal

abbrev pub invariant-loop-saved : goal.invariant-loop-saved
invariant-loop-saved l = l.list.items ++ l.saved-iterator ≡ l.self.sessions
