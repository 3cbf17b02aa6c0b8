-- What a script line prints.
use Rattle.std.specs.Prelude.{ℕ, ◌==◌, ◌&&◌, not, Bool, true, false, if◌then◌else◌, List, [], ◌∷◌, ◌++◌, codes, Option, Some, None, decimal, flat_map}
use Rattle.hex.specs.Hex.{encode_lower}
use Rattle.terms.specs.Ids.{id_digits}
use Rattle.journal.specs.declared.answers.Swept.{Swept}
use Rattle.journal.specs.Totals.{totals_text}
use Rattle.room_maps.specs.declared.error.RoomError.{RoomError}
use Rattle.room_maps.specs.declared.error.RoomError.TheVariants as room
use Rattle.events.specs.declared.cause.Cause.{Cause}
use Rattle.events.specs.declared.cause.Cause.TheVariants as cause
use Rattle.events.specs.Cause.{cause_name}
use Rattle.events.specs.declared.fault.CoreFault.{CoreFault}
use Rattle.events.specs.declared.fault.CoreFault.TheVariants as fault
use Rattle.events.specs.Plain.{PlainDone}
use Rattle.events.specs.declared.event.Event.{Event}
use Rattle.events.specs.declared.event.Event.TheVariants as event
use Rattle.events.specs.declared.event.WsFrame.{WsFrame}
use Rattle.events.specs.declared.event.WsFrame.TheVariants as frame
use Rattle.events.specs.declared.outcome.Outcome.{Outcome}
use Rattle.events.specs.declared.outcome.Outcome.TheVariants as outcome
use Rattle.script.specs.declared.printing.Posted.{Posted}
use Rattle.script.specs.declared.printing.Answer.{Answer}
use Rattle.script.specs.declared.printing.Answer.TheVariants as answer
use Rattle.script.specs.ScriptLine.{SPACE}

-- the name of a fault
abbrev pub fault_name : CoreFault → List ℕ
fault_name fault.Memory = codes "Memory"
fault_name fault.UnknownClient = codes "UnknownClient"
fault_name fault.WrongTransport = codes "WrongTransport"
fault_name fault.AlreadyProbing = codes "AlreadyProbing"
fault_name fault.AlreadyUpgraded = codes "AlreadyUpgraded"
fault_name fault.NotProbing = codes "NotProbing"
fault_name fault.TooManyClients = codes "TooManyClients"
fault_name fault.IdTaken = codes "IdTaken"
fault_name fault.Spent = codes "Spent"
fault_name fault.BadEffect = codes "BadEffect"
fault_name fault.BadConfig = codes "BadConfig"

-- the name of a reason why an effect was skipped
abbrev pub reason_name : RoomError → List ℕ
reason_name room.Memory = codes "Memory"
reason_name room.UnknownSocket = codes "UnknownSocket"
reason_name room.AlreadyIn = codes "AlreadyIn"
reason_name room.NotIn = codes "NotIn"
reason_name room.OwnRoom = codes "OwnRoom"
reason_name room.TooManyRooms = codes "TooManyRooms"
reason_name room.SidTaken = codes "SidTaken"

-- the client was closed for what no payload is
abbrev pub is_unread : Option Cause → Bool
is_unread (Some cause.Empty) = true
is_unread (Some cause.BadType) = true
is_unread (Some cause.BadBase64) = true
is_unread _ = false

abbrev pub is_double_get : Option Cause → Bool
is_double_get (Some cause.DoubleGet) = true
is_double_get _ = false

-- a payload wasn't read where it closed the client for what no payload is, before any packet of it was worked on
abbrev pub is_read : PlainDone → Bool
is_read d = not ((d.packets == 0) && is_unread d.closed)

-- what is told of packets that were worked on, where they were read or not
abbrev pub posted_of : PlainDone → (read : Bool) → Posted
posted_of d read = record { read = read; skipped = d.skipped; ignored = d.ignored; closed = d.closed }

-- that an effect was skipped, and why
abbrev pub skipped_text : Option RoomError → List ℕ
skipped_text None = []
skipped_text (Some reason) = codes ", skipped: " ++ reason_name reason

-- that an answer came to no open question
abbrev pub ignored_text : Bool → List ℕ
ignored_text ignored = if ignored then codes ", ignored" else []

-- that the client was closed, and why
abbrev pub closed_text : Option Cause → List ℕ
closed_text None = []
closed_text (Some cause) = codes ", closed: " ++ cause_name cause

-- what became of a payload or a frame
abbrev pub posted_text : Posted → List ℕ
posted_text p = (if p.read then codes "ok" else codes "400") ++ skipped_text p.skipped
    ++ ignored_text p.ignored ++ closed_text p.closed

-- what is due to a client, or why it was given up
abbrev pub due_text : (ping : Bool) → Option Cause → List ℕ
due_text ping (Some cause) = codes "closed: " ++ cause_name cause
due_text ping None = if ping then codes "ping" else codes "nothing"

-- the line of a frame: its text, or its bytes as pairs of lower-case hexadecimal digits
abbrev pub frame_text : (name : List ℕ) → WsFrame → List ℕ
frame_text name (frame.Text text) = name ++ codes " text " ++ text
frame_text name (frame.Bytes bytes) = name ++ codes " bytes " ++ encode_lower bytes

-- the lines of more frames, each after an LF
abbrev pub more_text : (name : List ℕ) → List WsFrame → List ℕ
more_text name frames = flat_map (λ frame. 10 ∷ frame_text name frame) frames

-- the lines of frames
abbrev pub frames_text : (name : List ℕ) → List WsFrame → List ℕ
frames_text name [] = []
frames_text name (first ∷ rest) = frame_text name first ++ more_text name rest

-- what the server dropped
abbrev pub swept_text : Swept → List ℕ
swept_text s = codes "swept log " ++ decimal s.log ++ codes ", saved " ++ decimal s.saved

-- ids, each after a space
abbrev pub ids_text : List ℕ → List ℕ
ids_text [] = []
ids_text (id ∷ ids) = SPACE ∷ id_digits id ++ ids_text ids

-- the line that an answer prints, without its LF
abbrev pub answer_text : Answer → List ℕ
answer_text (answer.Opened name text) = name.now ++ codes " " ++ text
answer_text (answer.Posted posted) = posted_text posted
answer_text answer.Ok = codes "ok"
answer_text (answer.Closed cause) = codes "closed: " ++ cause_name cause
answer_text (answer.Taken name (Some payload)) = name.now ++ codes " " ++ payload
answer_text (answer.Taken name None) = name.now ++ codes " -"
answer_text (answer.Frames lines) = lines
answer_text (answer.Probed name text) = name.now ++ codes " " ++ text
answer_text (answer.Ticked name ping closed) = name.now ++ codes " " ++ due_text ping closed
answer_text answer.NotSaved = codes "ok, not saved: SavedFull"
answer_text (answer.Members (Some ids)) = codes "members" ++ ids
answer_text (answer.Members None) = codes "members -"
answer_text (answer.Totals totals) = totals_text totals
answer_text (answer.Sealed steps) = codes "sealed " ++ decimal steps
answer_text (answer.Swept swept) = swept_text swept
answer_text (answer.Refused fault) = codes "refused: " ++ fault_name fault
answer_text answer.UnknownNamespace = codes "refused: UnknownNamespace"
answer_text answer.BadLine = codes "bad line"

-- what is printed of an event that was worked on: a second GET that waits has closed the client; a frame was read, also
-- one that is no packet
abbrev pub done_text : Event → PlainDone → List ℕ
done_text (event.Frame client frame) d = posted_text (posted_of d true)
done_text _ d = if is_double_get d.closed then codes "closed: DoubleGet" else posted_text (posted_of d (is_read d))

-- what is printed of an event's outcome for the client of this name
abbrev pub outcome_text : (name : List ℕ) → Event → Outcome → List ℕ
outcome_text name event (outcome.Opened opening) = name ++ codes " " ++ opening.text
outcome_text name event (outcome.Done done) = done_text event done
outcome_text name event outcome.Begun = codes "ok"
outcome_text name event (outcome.Payload text) = name ++ codes " " ++ text
outcome_text name event (outcome.Frames frames) = frames_text name frames.list
outcome_text name event outcome.Nothing = name ++ codes " -"
outcome_text name event (outcome.Probed text) = name ++ codes " " ++ text
outcome_text name event (outcome.Lost saved done) = if saved then codes "ok" else codes "ok, not saved: SavedFull"
outcome_text name event (outcome.Ticked ping done) = name ++ codes " " ++ due_text ping done.closed
outcome_text name event (outcome.Swept swept) = swept_text swept
