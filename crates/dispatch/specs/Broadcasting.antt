-- What an event that the app sends does (Socket.IO server documentation, "Broadcasting events").
use Rattle.std.specs.Prelude.{◌≡◌, ◌⊎◌, ℕ, None, Result, Ok, Err}
use Rattle.journal.specs.Plain.{PlainCast, PlainCastDone}
use Rattle.journal.specs.Journal.{History}
use Rattle.journal.specs.Casting.{refusal_of, IsCast, IsSpentBy}
use Rattle.events.specs.declared.fault.CoreFault.{CoreFault}
use Rattle.events.specs.declared.fault.CoreFault.TheVariants.{Memory, Spent}
use Rattle.events.specs.Plain.{PlainDone, one_more, told}

-- the hub's history, and what was done of an event
pub record Work : Type 0 where
  pub history : History
  pub done : PlainDone

abbrev pub work : History → PlainDone → Work
work history done = record { history = history; done = done }

-- it is sent in its namespace and counted, and who got it is listed, but for the event's own client
abbrev pub Broadcasts : (c : ℕ) → PlainCast → ℕ → Work → Work → Type 0
Broadcasts c e now s t = (refusal_of s.history e ≡ None)
    × (cast : PlainCastDone)
    × IsCast s.history t.history now e cast
    × (t.done ≡ told c cast.clients (one_more s.done))

-- it isn't: for want of memory, or since a count or the offset would pass the greatest u64
abbrev pub CannotBroadcast : PlainCast → History → CoreFault → Type 0
CannotBroadcast e h fault = (fault ≡ Memory) ⊎ ((fault ≡ Spent) × IsSpentBy h e)

-- the one or the other, and then nothing has changed
abbrev pub BroadcastsOrFails : (c : ℕ) → PlainCast → ℕ → Work → Result (Unit {0}) CoreFault → Work → Type 0
BroadcastsOrFails c e now s (Ok x) t = Broadcasts c e now s t
BroadcastsOrFails c e now s (Err fault) t = CannotBroadcast e s.history fault × (t ≡ s)
