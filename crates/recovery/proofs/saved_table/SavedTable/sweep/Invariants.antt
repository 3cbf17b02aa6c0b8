use Rattle.std.proofs.Common.{◌≡◌, filter, length}
use Rattle.recovery.specs.SavedTable.{is_alive}
use Rattle.recovery.proofs.saved_table.SavedTable.sweep.Given as goal

abbrev pub invariant-first : goal.invariant-first
invariant-first l = l.self.limit ≡ l.initial.self.limit × (filter (is_alive l.keep l.now) l.self.sessions ≡ filter (is_alive l.keep l.now) l.initial.self.sessions)

abbrev pub decreases-first : goal.decreases-first
decreases-first l = length l.self.sessions
