-- What the keeper brings, and whom it tells of the answers.
use Rattle.std.specs.Prelude.{◌≡◌, ℕ, ◌<◌, ◌||◌, Bool, true, false, List, length, slice_index_or, Option, None, Some, is_some, Ok, Err, nat_lt}
use Rattle.events.specs.declared.event.Event.{Event}
use Rattle.events.specs.declared.event.Event.TheVariants as event
use Rattle.events.specs.declared.fault.CoreFault.{CoreFault}
use Rattle.events.specs.declared.fault.CoreFault.TheVariants as fault
use Rattle.events.specs.Answer.{Answer}
use Rattle.events.specs.Plain.{PlainDone}
use Rattle.loop_rules.specs.declared.roster.Notes.{Notes}
use Rattle.loop_rules.specs.Ids.{loop_of}
use Rattle.loop_rules.specs.Notes.{is_noted}
use Rattle.tcp_server.specs.declared.keeper.Round.{Round}

-- it is asked what is due to the client; where there is none, the hub sweeps
abbrev pub event_of : Option ℕ → Event
event_of (Some c) = event.Tick c
event_of None = event.Sweep

-- the hub was asked too, once all of its clients were asked about
abbrev pub is_over : Round → Bool
is_over r = nat_lt (length r.clients.items) r.asked

-- a ping is due to the client, or it has ended
abbrev pub has_news : (ping : Bool) → PlainDone → Bool
has_news ping done = ping || is_some done.closed

-- something else than that there was no such client
abbrev pub is_other_fault : CoreFault → Bool
is_other_fault fault.UnknownClient = false
is_other_fault _ = true

-- the event failed, and not since its client was gone
abbrev pub hides_whom : Answer → Bool
hides_whom (Ok outcome) = false
hides_whom (Err e) = is_other_fault e.fault

-- each client is noted for its loop
abbrev pub AreNoted : (loops : ℕ) → (clients : List ℕ) → Notes → Type 0
AreNoted loops clients notes =
    (k : ℕ) → k < length clients → is_noted (loop_of (slice_index_or clients k 0) loops) (slice_index_or clients k 0) notes ≡ true
