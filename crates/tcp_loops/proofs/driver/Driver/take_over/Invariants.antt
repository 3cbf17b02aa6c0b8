use Rattle.std.proofs.Common.{◌≡◌}
use Rattle.tcp_loops.proofs.driver.Driver.take_over.Given as goal

-- the round goes on as it was
abbrev pub invariant-loop : goal.invariant-loop
invariant-loop g l = l.self.round ≡ l.initial.self.round
