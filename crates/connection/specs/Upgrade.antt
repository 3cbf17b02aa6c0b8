-- The transport after a history (Engine.IO protocol 4, "Upgrade").
use Rattle.std.specs.Prelude.{if◌then◌else◌, List, [], ◌∷◌, Option, None, Some}
use Rattle.connection.specs.declared.clock.Transport.{Transport}
use Rattle.connection.specs.declared.clock.Transport.TheVariants.{Polling, Probing, Socket}
use Rattle.connection.specs.declared.clock.ClockError.{ClockError}
use Rattle.connection.specs.declared.clock.ClockError.TheVariants.{NotProbing, AlreadyProbing, AlreadyUpgraded}
use Rattle.connection.specs.ClockHistory.{Opening, Call, Probed, Upgraded, ProbeLost}

-- by the last probe, upgrade or lost probe; before any, as the clock was opened
unfoldable pub transport : Opening → List Call → Transport
transport o [] = if o.socket then Socket else Polling
transport o (Probed ∷ h) = Probing
transport o (Upgraded ∷ h) = Socket
transport o (ProbeLost ∷ h) = Polling
transport o (_ ∷ h) = transport o h

-- a probe is refused unless the client polls and no probe runs
abbrev pub probe_refusal : Transport → Option ClockError
probe_refusal Polling = None
probe_refusal Probing = Some AlreadyProbing
probe_refusal Socket = Some AlreadyUpgraded

-- an upgrade, and the loss of a probe, are refused unless a probe runs
abbrev pub unprobed_refusal : Transport → Option ClockError
unprobed_refusal Polling = Some NotProbing
unprobed_refusal Probing = None
unprobed_refusal Socket = Some AlreadyUpgraded
