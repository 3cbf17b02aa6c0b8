use Rattle.std.proofs.Common.{◌≡◌}
use Rattle.tcp_loops.proofs.driver.Driver.keep_deadlines.Given as goal

-- the round goes on as it was
abbrev pub invariant-loop-key : goal.invariant-loop-key
invariant-loop-key g l = l.self.round ≡ l.initial.self.round
