-- What the app does where sockets have ended, and of those that an event ended (Socket.IO server documentation, "Server API":
-- the events `disconnecting` and `disconnect`).
use Rattle.std.specs.Prelude.{◌≡◌, ◌⊎◌, ℕ, true, false, List, [], get_or, drop, length, Result, Err, Option, None, Some, Ok}
use Rattle.journal.specs.declared.socket.Socket.{Socket}
use Rattle.journal.specs.Plain.{Limits}
use Rattle.journal.specs.Journal.{History}
use Rattle.hub_state.specs.EndedSockets.{PlainEnded, ended_sockets}
use Rattle.events.specs.declared.app.Effect.{Effect}
use Rattle.events.specs.declared.app.Effect.TheVariants.{Emit}
use Rattle.events.specs.declared.app.Who.{Who}
use Rattle.events.specs.declared.fault.CoreFault.{CoreFault}
use Rattle.events.specs.declared.fault.CoreFault.TheVariants.{Memory, BadEffect}
use Rattle.events.specs.App.{Policy, AllClean}
use Rattle.dispatch.specs.Effects.{is_bad_emission}
use Rattle.dispatch.specs.Runs.{RunsOrFails}
use Rattle.dispatch.specs.Broadcasting.{Work, BroadcastsOrFails, work}
use Rattle.events.specs.declared.outcome.Outcome.{Outcome}
use Rattle.events.specs.declared.outcome.Outcome.TheVariants.{Done, Lost, Ticked}
use Rattle.events.specs.Answer.{Answer}
use Rattle.events.specs.Plain.{PlainDone, nothing_done}

-- the sockets that ended between these two
abbrev pub ended_since : (before after : History) → List PlainEnded
ended_since before after = drop (length (ended_sockets before.base before.journal)) (ended_sockets after.base after.journal)

-- the name of its namespace
abbrev pub name_of : Limits → Socket → List ℕ
name_of limits k = get_or limits.spaces k.space []

-- the socket, as the app hears of it
abbrev pub who_of : Limits → Socket → Who
who_of limits k = record { client = k.client; space = name_of limits k; sid = k.sid }

-- an effect of a socket that has ended: it can only be an event, one that can be sent, in a namespace that is there; all else
-- is refused
abbrev pub Sends : (c now : ℕ) → Work → Effect → Result (Unit {0}) CoreFault → Work → Type 0
Sends c now s (Emit e) r t = elim (is_bad_emission s.history.limits e) [
  | true ↦ (r ≡ Err BadEffect) × (t ≡ s)
  | false ↦ BroadcastsOrFails c e now s r t
]
Sends c now s _ r t = (r ≡ Err BadEffect) × (t ≡ s)

module _ (policy : Policy) (c now : ℕ) where
  -- the app hears of a socket that has ended, and what it wants then is done until something is refused; or it has no memory
  abbrev pub HearsOf : Work → PlainEnded → Result (Unit {0}) CoreFault → Work → Type 0
  HearsOf s gone r t =
      ((r ≡ Err Memory) × (t ≡ s))
      ⊎ ((effects : List Effect) × policy.ends (who_of s.history.limits gone.socket) gone.rooms gone.ending effects × AllClean effects
      × RunsOrFails (Sends c now) effects s r t)

  -- it hears of each of them in turn
  abbrev pub HearsOfAll : List PlainEnded → Work → Result (Unit {0}) CoreFault → Work → Type 0
  HearsOfAll ended s r t = RunsOrFails HearsOf ended s r t

-- what was done of the event, where its outcome says so: no other event ends a socket
abbrev pub done_of : Outcome → Option PlainDone
done_of (Done done) = Some done
done_of (Lost saved done) = Some done
done_of (Ticked ping done) = Some done
done_of _ = None

-- the outcome, with this done
abbrev pub with_done : Outcome → PlainDone → Outcome
with_done (Done before) done = Done done
with_done (Lost saved before) done = Lost saved done
with_done (Ticked ping before) done = Ticked ping done
with_done o done = o

-- an error of the event stays, but want of memory to hear stands in its place
abbrev pub fault_after : CoreFault → Result (Unit {0}) CoreFault → CoreFault
fault_after fault (Err Memory) = Memory
fault_after fault _ = fault

-- the answer tells what was done at the end, after all that the app wanted or until a fault
abbrev pub answer_after : Answer → Result (Unit {0}) CoreFault → PlainDone → Answer
answer_after (Ok o) (Ok x) done = Ok (with_done o done)
answer_after (Ok o) (Err fault) done = Err (record { fault = fault; packets = done.packets; effects = done.effects })
answer_after (Err e) r done = Err (record e { fault = fault_after e.fault r; effects = done.effects })

-- what was done before the app hears
abbrev pub done_before : Answer → Option PlainDone
done_before (Ok o) = done_of o
done_before (Err e) = Some (record nothing_done { packets = e.packets; effects = e.effects })

module _ (policy : Policy) (c now : ℕ) (ended : List PlainEnded) (h : History) (said answer : Answer) (g : History) where
  -- the app hears of the sockets that an event of the client ended
  abbrev pub Hears : PlainDone → Type 0
  Hears before = (r : Result (Unit {0}) CoreFault) × (after : PlainDone)
      × HearsOfAll policy c now ended (work h before) r (work g after) × (answer ≡ answer_after said r after)

-- the app hears of the sockets that ended, where the event is of a client and may end some
abbrev pub HearsAfter : Policy → ℕ → Option ℕ → List PlainEnded → History → (said answer : Answer) → History → Type 0
HearsAfter policy now None ended h said answer g = (answer ≡ said) × (g ≡ h)
HearsAfter policy now (Some c) ended h said answer g = elim (done_before said) [
  | None ↦ (answer ≡ said) × (g ≡ h)
  | Some before ↦ Hears policy c now ended h said answer g before
]
