use Rattle.std.proofs.Common.{rules}
use Rattle.connection.specs.ClockHistory.{Probed, moment, was_joined}
use Rattle.connection.specs.Heartbeat.{awaited_ping, interval_start, due_at}
use Rattle.connection.specs.Upgrade.{transport}
use Rattle.connection.specs.Clock.{IsLegal}
use Rattle.connection.proofs.ClockLemmas.{one_call_longer}
use Rattle.connection.proofs.clock.Clock.probe.Goals as goal

pub invariant_of-self : goal.invariant_of-self
unfolding moment was_joined awaited_ping interval_start due_at transport IsLegal
invariant_of-self c = one_call_longer _ _ Probed (λ o h leads. search rules) c.self.invariant
