-- What the passing of time brings: a client's heartbeat and its end (Engine.IO protocol 4, "Heartbeat"; Socket.IO server
-- documentation, "connectTimeout"), and the sweep of what is kept no longer (the same, "Connection state recovery").
use Rattle.std.specs.Prelude.{◌≡◌, ℕ, true, false, [], ◌∷◌, Some, Ok, Err}
use Rattle.connection.specs.declared.clock.Due.{Due}
use Rattle.connection.specs.declared.clock.Due.TheVariants.{Nothing, SendPing, PingTimeout, ConnectTimeout}
use Rattle.connection.specs.Heartbeat.{due}
use Rattle.connection.specs.History.{Ticked, clock_calls}
use Rattle.connection.specs.Line.{PlainLine, ForEachHistory}
use Rattle.journal.specs.declared.step.What.TheVariants as what
use Rattle.events.specs.declared.cause.Cause.TheVariants as cause
use Rattle.hub_totals.specs.Pass.{Drops}
use Rattle.dispatch.specs.Commands.{Makes, StopsAt}
use Rattle.dispatch.specs.Scene.{Visit}
use Rattle.events.specs.declared.outcome.Outcome.TheVariants as outcome
use Rattle.events.specs.Answer.{Answer, at_once}
use Rattle.events.specs.Plain.{nothing_done}
use Rattle.dispatch.specs.Answers.{ChangesNone, AdvancesLine}
use Rattle.dispatch.specs.Parking.{ParksOrCloses, FailsToPark}
use Rattle.dispatch.specs.Holding.{Holding, LosesLine, KeepsLines}

-- ---- a tick

-- whichever calls led to the line: this is due to its client
abbrev pub IsDue : Due → ℕ → PlainLine → Type 0
IsDue what now line = ForEachHistory line (λ o h. what ≡ due o (clock_calls h) now)

-- a silent client's sessions are saved, one that joined nothing is closed; where the hub doesn't do so the line stays, but
-- the tick stands in its history, with the questions that ran out forgotten
abbrev pub TicksOn : Due → Visit → PlainLine → Holding → Answer → Holding → Type 0
TicksOn Nothing visit line s answer t = (answer ≡ Ok (outcome.Ticked false nothing_done))
    × AdvancesLine visit.client line (Ticked visit.moment Nothing ∷ []) s t
TicksOn SendPing visit line s answer t = (answer ≡ Ok (outcome.Ticked true nothing_done))
    × AdvancesLine visit.client line (Ticked visit.moment SendPing ∷ []) s t
TicksOn PingTimeout visit line s (Ok o) t = (o ≡ outcome.Ticked false (record nothing_done { closed = Some cause.PingTimeout }))
    × ParksOrCloses s.history visit.moment visit.client t.history × LosesLine visit.client s t
TicksOn PingTimeout visit line s (Err e) t = (e ≡ at_once e.fault)
    × FailsToPark s.history visit.moment visit.client e.fault
    × AdvancesLine visit.client line (Ticked visit.moment PingTimeout ∷ []) s t
TicksOn ConnectTimeout visit line s (Ok o) t = (o ≡ outcome.Ticked false (record nothing_done { closed = Some cause.ConnectTimeout }))
    × Makes s.history visit.moment (what.Closed visit.client) t.history × LosesLine visit.client s t
TicksOn ConnectTimeout visit line s (Err e) t = (e ≡ at_once e.fault)
    × StopsAt s.history visit.moment (what.Closed visit.client) e.fault
    × AdvancesLine visit.client line (Ticked visit.moment ConnectTimeout ∷ []) s t

-- what is due to the client is done
abbrev pub Ticks : Visit → PlainLine → Holding → Answer → Holding → Type 0
Ticks visit line s answer t = (what : Due) × IsDue what visit.moment line × TicksOn what visit line s answer t

-- ---- a sweep

-- old entries of the log and old saved sessions are gone, and the answer says how many
abbrev pub Sweeps : ℕ → Holding → Answer → Holding → Type 0
Sweeps now s (Ok (outcome.Swept dropped)) t = Makes s.history now what.Swept t.history × Drops dropped s.history t.history × KeepsLines s t
Sweeps now s (Ok _) t = ⊥
Sweeps now s (Err e) t = StopsAt s.history now what.Swept e.fault × ChangesNone e s t
