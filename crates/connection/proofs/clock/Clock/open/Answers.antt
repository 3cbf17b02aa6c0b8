use Rattle.std.proofs.Common.{rules}
use Rattle.std.specs.Prelude.{[]}
use Rattle.connection.specs.ClockHistory.{moment, was_joined}
use Rattle.connection.specs.Heartbeat.{awaited_ping, interval_start, due_at}
use Rattle.connection.specs.Upgrade.{transport}
use Rattle.connection.specs.Clock.{IsLegal}
use Rattle.connection.proofs.clock.Clock.open.Goals as goal

pub invariant_of-result : goal.invariant_of-result
unfolding moment was_joined awaited_ping interval_start due_at transport IsLegal
invariant_of-result c =
    record { opening = record { now = c.args.now; timing = c.args.timing; socket = c.args.socket }; calls = []; leads = search rules }
