use Rattle.std.proofs.Common.{◌≡◌, ◌++◌}
use Rattle.guarded.specs.Deadlines.{due_at}
use Rattle.guarded.proofs.deadlines.Deadlines.due.Given as goal

abbrev pub invariant-loop-room : goal.invariant-loop-room
invariant-loop-room l = l.due.items ++ due_at l.seconds l.room-iterator ≡ due_at l.seconds l.self
