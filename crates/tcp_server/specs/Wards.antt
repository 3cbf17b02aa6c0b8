-- Whom the warden watches, and what it says.
use Rattle.std.specs.Prelude.{ℕ, ◌-◌, Bool, true, false, List, ◌++◌, length, codes, Option, None, Some, option_map, slice_get}
use Rattle.guarded.specs.Deadlines.{Changes, newcomer, until}
use Rattle.guarded.specs.Telling.{EXPIRY, connect_text, end_text}
use Rattle.guarded.specs.declared.deadlines.Due.{Due}
use Rattle.guarded.specs.declared.deadlines.Watched.{Watched}
use Rattle.guarded.specs.declared.warden.Told.{Told}
use Rattle.guarded.specs.declared.warden.Told.TheVariants.{Came, Back, Away, Gone}
use Rattle.events.specs.declared.event.Event.{Event}
use Rattle.events.specs.declared.event.Event.TheVariants as event
use Rattle.events.specs.declared.event.WsFrame.TheVariants as frame
use Rattle.tcp_server.specs.declared.warden.Stage.{Stage}
use Rattle.tcp_server.specs.declared.warden.Stage.TheVariants.{Opens, Joins, Answers, Ends}
use Rattle.tcp_server.specs.declared.warden.Progress.{Progress}

-- ---- what it is told

-- of the socket this is known then; one that is away may come back up to a moment
abbrev pub Notes : (limit : ℕ) → Told → (old new : List (List ℕ × Watched)) → Type 0
Notes limit (Came room space expires) old new = Changes room (λ _. Some (newcomer space expires)) old new
Notes limit (Back room) old new = Changes room (option_map (until None)) old new
Notes limit (Away room) old new = Changes room (option_map (until (Some limit))) old new
Notes limit (Gone room) old new = Changes room (λ _. None) old new

abbrev pub is_back : Told → Bool
is_back (Back room) = true
is_back _ = false

-- an event of its namespace with this payload (Socket.IO protocol 5, "Packet encoding")
abbrev pub event_text : (payload : List ℕ) → List ℕ
event_text payload = codes "2" ++ EXPIRY ++ codes "," ++ payload

-- ---- what it says

-- the last one of those that are due
abbrev pub last : List Due → Option Due
last due = slice_get due (length due - 1)

-- its client sends a text
abbrev pub says : (client : ℕ) → (text : List ℕ) → Event
says client text = event.Frame client (frame.Text text)

-- it joins its namespace by its token, answers a ping by `3` and ends a socket, each as a message, `4` (Engine.IO protocol 4,
-- "Protocol"), that is a CONNECT, `0`, or an event, `2`
abbrev pub event_at : Stage → (client : ℕ) → (token : List ℕ) → (last : Option Due) → Event
event_at Opens client token last = event.Opened true
event_at Joins client token last = says client (codes "40" ++ EXPIRY ++ codes "," ++ connect_text token)
event_at Answers client token last = says client (codes "3")
event_at Ends client token (Some due) = says client (codes "42" ++ EXPIRY ++ codes "," ++ end_text due.space due.room)
event_at _ client token last = event.FrameTake client 256

abbrev pub event_of : Progress → (token : List ℕ) → List Due → Event
event_of p token due = event_at p.stage p.client token (last due)
