use Rattle.std.proofs.Common.{[], ◌∷◌}
use Rattle.connection.specs.History.{PingCarried}
use Rattle.connection.proofs.LineLemmas.{advanced, ping-carried}
use Rattle.connection.proofs.line.Line.carry_ping.Goals as goal

pub invariant_of-self : goal.invariant_of-self
invariant_of-self c = advanced _ _ (PingCarried ∷ []) (ping-carried _) c.self.invariant
