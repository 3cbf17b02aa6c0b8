-- How a client that polls comes to speak over a WebSocket (Engine.IO protocol 4, "Upgrade").
use Rattle.std.specs.Prelude.{◌≡◌, ◌⊎◌, ℕ, [], ◌∷◌, codes, Ok}
use Rattle.connection.specs.declared.clock.ClockError.{ClockError}
use Rattle.connection.specs.declared.clock.ClockError.TheVariants as clock
use Rattle.connection.specs.declared.clock.Transport.{Transport}
use Rattle.connection.specs.declared.clock.Transport.TheVariants.{Polling, Probing, Socket}
use Rattle.connection.specs.History.{Probed, Upgraded, ProbeLost, Call}
use Rattle.connection.specs.Line.{PlainLine}
use Rattle.events.specs.declared.fault.CoreFault.{CoreFault}
use Rattle.events.specs.declared.fault.CoreFault.TheVariants.{Memory, AlreadyProbing, AlreadyUpgraded, NotProbing}
use Rattle.events.specs.declared.outcome.Outcome.TheVariants as outcome
use Rattle.events.specs.Plain.{nothing_done}
use Rattle.events.specs.Answer.{Answer}
use Rattle.dispatch.specs.Answers.{Refused, AdvancesLine}
use Rattle.dispatch.specs.Holding.{Holding}
use Rattle.dispatch.specs.Takes.{IsOn}

-- a refusal of the clock by its name
abbrev pub fault_of_clock : ClockError → CoreFault
fault_of_clock clock.NotProbing = NotProbing
fault_of_clock clock.AlreadyProbing = AlreadyProbing
fault_of_clock clock.AlreadyUpgraded = AlreadyUpgraded

-- only a client that polls may probe; the answer to its probe is the pong `3probe`
abbrev pub ProbesOn : Transport → ℕ → PlainLine → Holding → Answer → Holding → Type 0
ProbesOn Polling c line s answer t = (answer ≡ Ok (outcome.Probed (codes "3probe"))) × AdvancesLine c line (Probed ∷ []) s t
ProbesOn Probing c line s answer t = Refused AlreadyProbing s answer t
ProbesOn Socket c line s answer t = Refused AlreadyUpgraded s answer t

-- the answer is made first, so where there is no memory for it no probe has begun
abbrev pub Probes : ℕ → PlainLine → Holding → Answer → Holding → Type 0
Probes c line s answer t = Refused Memory s answer t ⊎ ((on : Transport) × IsOn on line × ProbesOn on c line s answer t)

-- a probe ends so, which only a probe that runs can
abbrev pub EndsProbeOn : Transport → Call → ℕ → PlainLine → Holding → Answer → Holding → Type 0
EndsProbeOn Polling end c line s answer t = Refused NotProbing s answer t
EndsProbeOn Probing end c line s answer t = (answer ≡ Ok (outcome.Done nothing_done)) × AdvancesLine c line (end ∷ []) s t
EndsProbeOn Socket end c line s answer t = Refused AlreadyUpgraded s answer t

abbrev pub EndsProbe : Call → ℕ → PlainLine → Holding → Answer → Holding → Type 0
EndsProbe end c line s answer t = (on : Transport) × IsOn on line × EndsProbeOn on end c line s answer t

-- with success: the client speaks over the WebSocket from now on
abbrev pub Upgrades : ℕ → PlainLine → Holding → Answer → Holding → Type 0
Upgrades c line s answer t = EndsProbe Upgraded c line s answer t

-- or without: the client polls on
abbrev pub LosesProbe : ℕ → PlainLine → Holding → Answer → Holding → Type 0
LosesProbe c line s answer t = EndsProbe ProbeLost c line s answer t
