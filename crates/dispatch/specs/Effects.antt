-- What the app's effects do (Socket.IO protocol 5, "Sending and receiving data", "Acknowledgement" and "Disconnection from
-- a namespace"; Socket.IO server documentation, "Rooms" and "Utility methods").
use Rattle.std.specs.Prelude.{◌≡◌, ◌⊎◌, ℕ, ◌+◌, ◌<◌, ◌^◌, ◌==◌, min, Bool, true, false, not, ◌||◌, List, [], ◌∷◌, length, nat_lt, is_none, Option, None, Some, Result, Ok, Err, if◌then◌else◌}
use Rattle.std.specs.List.{list_any}
use Rattle.room_maps.specs.declared.error.RoomError.{RoomError}
use Rattle.terms.specs.declared.entry.Entry.{Entry}
use Rattle.sio_wire.specs.declared.header.Header.{Header}
use Rattle.sio_wire.specs.declared.header.Kind.{Kind}
use Rattle.sio_wire.specs.declared.header.Kind.TheVariants.{Ack, BinaryAck, Event, BinaryEvent}
use Rattle.sio_wire.specs.Header.{Plain}
use Rattle.sio_wire.specs.Offset.{is_bracket}
use Rattle.sio_wire.specs.Disconnect.{disconnect_text}
use Rattle.std.specs.Option.{option_map_or, option_or}
use Rattle.journal.specs.declared.error.HubError.TheVariants as hub
use Rattle.journal.specs.declared.form.Form.{Form}
use Rattle.journal.specs.Broadcast.{id_of}
use Rattle.journal.specs.declared.step.What.{What}
use Rattle.journal.specs.declared.ending.Side.TheVariants as side
use Rattle.journal.specs.declared.step.What.TheVariants as what
use Rattle.journal.specs.Plain.{Limits, PlainDismissal}
use Rattle.journal.specs.Journal.{History}
use Rattle.journal.specs.ManySockets.{joining, leaving, dismissal}
use Rattle.connection.specs.declared.ack_book.AckError.TheVariants as ack
use Rattle.connection.specs.Book.{ask_refusal}
use Rattle.connection.specs.Questions.{next_id}
use Rattle.connection.specs.History.{Call, Asked, Answered, Disconnected, book_calls}
use Rattle.connection.specs.Line.{PlainLine, ForEachHistory, Advances}
use Rattle.events.specs.declared.app.Effect.{Effect}
use Rattle.events.specs.declared.app.Effect.TheVariants.{Join, Leave, Emit, EmitAsk, Reply, Report, Fetch, Disconnect, AllJoin, AllLeave, AllEnd}
use Rattle.events.specs.declared.app.Inquiry as inquiry
use Rattle.events.specs.declared.app.Reply as reply
use Rattle.events.specs.declared.app.Who.{Who}
use Rattle.events.specs.declared.cause.Cause.{Cause}
use Rattle.events.specs.declared.cause.Cause.TheVariants.{OutboxFull}
use Rattle.events.specs.declared.fault.CoreFault.{CoreFault}
use Rattle.events.specs.declared.fault.CoreFault.TheVariants.{Memory, Spent, BadEffect}
use Rattle.journal.specs.Plain.{PlainCast}
use Rattle.events.specs.Selection.{PlainSelection}
use Rattle.journal.specs.Membership.{is_open, is_space, place_of}
use Rattle.hub_state.specs.Words.{selected}
use Rattle.dispatch.specs.Answering.{report_text, list_text}
use Rattle.dispatch.specs.Commands.{Makes, IsRefused, StopsAt, DoesOr, IsSeated}
use Rattle.events.specs.declared.fault.Stopped.{Stopped}
use Rattle.dispatch.specs.declared.scene.Tally.{Tally}
use Rattle.events.specs.Plain.{PlainDone, one_more, noted, told}
use Rattle.dispatch.specs.Runs.{FailsAfter}
use Rattle.dispatch.specs.Broadcasting.{work, Broadcasts, CannotBroadcast}

-- where an event stands between two effects of a packet: the hub's history, the client's line, what was done of the event,
-- under which id the packet still asks to be acknowledged, why the first of its effects that was skipped was, and whether its
-- socket was disconnected
pub record Scene : Type 0 where
  pub history : History
  pub line : PlainLine
  pub done : PlainDone
  pub asked : Option ℕ
  pub refused : Option RoomError
  pub ended : Bool

abbrev pub scene : History → PlainLine → Tally → Scene
scene history line tally =
    record { history = history; line = line; done = tally.done; asked = tally.asked; refused = tally.refused; ended = tally.ended }

-- the client is open
abbrev pub IsOpenFor : ℕ → Scene → Type 0
IsOpenFor c s = is_open s.history.base s.history.journal c ≡ true

-- one effect more was done
abbrev pub counted : Scene → Scene
counted s = record s { done = one_more s.done }

-- the client is closed for this cause
abbrev pub Closes : ℕ → ℕ → Cause → Scene → Scene → Type 0
Closes c now cause s t = Makes s.history now (what.Closed c) t.history
    × (t ≡ record s { history = t.history; done = record s.done { closed = Some cause } })

-- ---- which effects the app may not have

-- no offset could be added to the payload, or too many attachments go with it
abbrev pub is_unsendable : List ℕ → List (List ℕ) → Bool
is_unsendable payload attachments = not (list_any is_bracket payload) || nat_lt 32 (length attachments)

-- the server doesn't have the namespace
abbrev pub is_unknown : Limits → (space : List ℕ) → Bool
is_unknown limits space = not (is_space limits (place_of limits space))

-- its id has more than the fifteen digits that a packet's id may have: who answers would be closed
abbrev pub has_long_id : Form → Bool
has_long_id form = option_map_or (λ id. nat_lt 999999999999999 id) (id_of form) false

-- there is no namespace to send it in, or it can't be sent
abbrev pub is_bad_emission : Limits → PlainCast → Bool
is_bad_emission limits e = is_unknown limits e.space || (is_unsendable e.payload e.attachments || has_long_id e.form)

-- the effect can't be done by itself: the namespace that it names isn't there, what it sends can't be sent, or no reply is
-- asked for any more
abbrev pub is_wrong : Limits → (asked : Option ℕ) → Effect → Bool
is_wrong limits asked (Emit e) = is_bad_emission limits e
is_wrong limits asked (EmitAsk q) = is_unsendable q.payload q.attachments
is_wrong limits asked (Reply r) = is_none asked || is_unsendable r.payload r.attachments
is_wrong limits asked Report = is_none asked
is_wrong limits asked (Fetch m) = is_none asked || is_unknown limits m.space
is_wrong limits asked (AllJoin m room) = is_unknown limits m.space
is_wrong limits asked (AllLeave m room) = is_unknown limits m.space
is_wrong limits asked (AllEnd m) = is_unknown limits m.space
is_wrong limits asked _ = false

-- it can't be done, or comes after the socket was disconnected
abbrev pub is_bad : Scene → Effect → Bool
is_bad s effect = s.ended || is_wrong s.history.limits s.asked effect

-- ---- each effect

-- a change of the socket's rooms: where the rooms don't allow it, it is skipped
abbrev pub ChangesRooms : What → ℕ → Scene → Scene → Type 0
ChangesRooms what now s t =
    (Makes s.history now what t.history × (t ≡ record (counted s) { history = t.history }))
    ⊎ ((e : RoomError) × IsRefused s.history now what (hub.RoomRefused e) × (t ≡ record s { done = noted (Some e) (one_more s.done); refused = option_or s.refused (Some e) }))

-- an event is sent, in its own namespace
abbrev pub Emits : Who → PlainCast → ℕ → Scene → Scene → Type 0
Emits who e now s t = Broadcasts who.client e now (work s.history s.done) (work t.history t.done)
    × (t ≡ record s { history = t.history; done = t.done })

-- the client is told this
abbrev pub told_to : ℕ → Entry → What
told_to c entry = what.Told (record { client = c; entry = entry })

-- the header of a packet with an id: of the one kind, or of the other where it has attachments
abbrev pub header_of : Kind × Kind → (space : List ℕ) → (id : ℕ) → (payload : List ℕ) → List (List ℕ) → Header
header_of kinds space id payload parts =
    record { kind = if length parts == 0 then kinds.0 else kinds.1; space = space; id = Some id; payload = payload; count = length parts }

pub record IsPacket (kinds : Kind × Kind) (space : List ℕ) (id : ℕ) (payload : List ℕ) (parts : List (List ℕ)) (entry : Entry) : Type 0 where
  pub fits : id < 2 ^ 64
  pub text : Plain (header_of kinds space id payload parts) entry.text
  pub attachments : entry.attachments ≡ parts

-- the acknowledgement of the event with this id
abbrev pub IsReply : List ℕ → (id : ℕ) → reply.Reply → Entry → Type 0
IsReply space id r entry = IsPacket (Ack, BinaryAck) space id r.payload r.attachments entry

-- the client is told, or closed where its outbox has no space for it
abbrev pub Replies : Who → (id : ℕ) → reply.Reply → ℕ → Scene → Scene → Type 0
Replies who id r now s t = (entry : Entry) × IsReply who.space id r entry
    × ((Makes s.history now (told_to who.client entry) t.history × (t ≡ record (counted s) { history = t.history; asked = None }))
    ⊎ (IsRefused s.history now (told_to who.client entry) hub.OutboxFull × Closes who.client now OutboxFull s t))

-- the event is acknowledged with this text of the server's
abbrev pub Says : Who → (text : List ℕ) → ℕ → Scene → Scene → Type 0
Says who text now s t = (id : ℕ) × (s.asked ≡ Some id) × Replies who id (record { payload = text; attachments = [] }) now s t

-- the sockets of the namespace that match, as the text of a list
abbrev pub listed : PlainSelection → History → List ℕ
listed m h = list_text (selected h (place_of h.limits m.space) m.rooms m.excepted)

-- the question with this id
abbrev pub IsInquiry : List ℕ → (id : ℕ) → inquiry.Inquiry → Entry → Type 0
IsInquiry space id q entry = IsPacket (Event, BinaryEvent) space id q.payload q.attachments entry

-- the client is told the question with this id, or its outbox has no space for it, or it ends the event
abbrev pub TellsInquiry : Who → (id : ℕ) → inquiry.Inquiry → ℕ → History → Result Bool CoreFault → History → Type 0
TellsInquiry who id q now h (Ok told) g = (entry : Entry) × IsInquiry who.space id q entry
    × DoesOr hub.OutboxFull h now (told_to who.client entry) (Ok told) g
TellsInquiry who id q now h (Err fault) g = (g ≡ h)
    × ((fault ≡ Memory) ⊎ ((entry : Entry) × IsInquiry who.space id q entry × StopsAt h now (told_to who.client entry) fault))

-- the socket's next question has this id
abbrev pub IsNextId : PlainLine → (sid id : ℕ) → Type 0
IsNextId line sid id = ForEachHistory line (λ o h. id ≡ next_id 0 (book_calls sid h))

-- the question is asked, and runs out after its time, at the greatest moment at the latest
abbrev pub asked_of : Who → ℕ → inquiry.Inquiry → Call
asked_of who now q = Asked who.sid q.tag (min (now + q.wait) 18446744073709551615)

-- and it is forgotten again: nobody was told
abbrev pub asked_in_vain : Who → ℕ → inquiry.Inquiry → (id : ℕ) → List Call
asked_in_vain who now q id = Answered who.sid id ∷ asked_of who now q ∷ []

-- the client is asked, or closed where its outbox has no space for the question
abbrev pub Asks : Who → inquiry.Inquiry → ℕ → Scene → Scene → Type 0
Asks who q now s t = (id : ℕ) × IsNextId s.line who.sid id × (entry : Entry) × IsInquiry who.space id q entry
    × ((Makes s.history now (told_to who.client entry) t.history × Advances s.line (asked_of who now q ∷ []) t.line
    × (t ≡ record (counted s) { history = t.history; line = t.line }))
    ⊎ (IsRefused s.history now (told_to who.client entry) hub.OutboxFull × Advances s.line (asked_in_vain who now q id) t.line
    × Closes who.client now OutboxFull (record s { line = t.line }) t))

-- the client is told that the socket ends, where its outbox has space for that
abbrev pub goodbye : Who → What
goodbye who = told_to who.client (record { text = disconnect_text who.space; attachments = [] })

abbrev pub SaysGoodbye : Who → ℕ → History → History → Type 0
SaysGoodbye who now h g = Makes h now (goodbye who) g ⊎ (IsRefused h now (goodbye who) hub.OutboxFull × (g ≡ h))

abbrev pub Disconnects : Who → ℕ → Scene → Scene → Type 0
Disconnects who now s t = (between : History) × SaysGoodbye who now s.history between × Makes between now (what.Ended who.sid side.Server) t.history
    × Advances s.line (Disconnected who.sid ∷ []) t.line × (t ≡ record (counted s) { history = t.history; line = t.line; ended = true })

-- ---- effects on all sockets of a namespace that match

abbrev pub all_joined : PlainSelection → (room : List ℕ) → History → What
all_joined m room h = what.AllJoined (joining h (place_of h.limits m.space) m.rooms m.excepted room)

abbrev pub all_left : PlainSelection → (room : List ℕ) → History → What
all_left m room h = what.AllLeft (leaving h (place_of h.limits m.space) m.rooms m.excepted room)

abbrev pub all_changed : (enters : Bool) → PlainSelection → (room : List ℕ) → History → What
all_changed true m room h = all_joined m room h
all_changed false m room h = all_left m room h

abbrev pub dismissed : PlainSelection → History → PlainDismissal
dismissed m h = dismissal h (place_of h.limits m.space) m.rooms m.excepted

-- the acting socket is one of those that end
abbrev pub is_among : ℕ → List ℕ → Bool
is_among sid ended = list_any (λ s. sid == s) ended

-- the sockets end; where the acting one is among them, its questions go
abbrev pub EndsAll : Who → PlainSelection → ℕ → Scene → Scene → Type 0
EndsAll who m now s t = let d = dismissed m s.history in
    Makes s.history now (what.AllEnded d) t.history
    × (t ≡ record s { history = t.history; line = t.line; done = told who.client d.told (one_more s.done); ended = is_among who.sid d.ended })
    × elim (is_among who.sid d.ended) [ true ↦ Advances s.line (Disconnected who.sid ∷ []) t.line | false ↦ t.line ≡ s.line ]

-- what the effect does where it is allowed
abbrev pub Acts : Who → ℕ → Scene → Effect → Scene → Type 0
Acts who now s (Join room) t = ChangesRooms (what.Joined who.sid room) now s t
Acts who now s (Leave room) t = ChangesRooms (what.Left who.sid room) now s t
Acts who now s (Emit e) t = Emits who e now s t
Acts who now s (Reply r) t = (id : ℕ) × (s.asked ≡ Some id) × Replies who id r now s t
Acts who now s Report t = Says who (report_text s.refused) now s t
Acts who now s (Fetch m) t = Says who (listed m s.history) now s t
Acts who now s (EmitAsk q) t = Asks who q now s t
Acts who now s Disconnect t = Disconnects who now s t
Acts who now s (AllJoin m room) t = ChangesRooms (all_joined m room s.history) now s t
Acts who now s (AllLeave m room) t = ChangesRooms (all_left m room s.history) now s t
Acts who now s (AllEnd m) t = EndsAll who m now s t

-- an effect in its turn: after the client was closed nothing more is done
abbrev pub ActsInTurn : Who → ℕ → Scene → Effect → Scene → Type 0
ActsInTurn who now s effect t = elim s.done.closed [
  | Some cause ↦ t ≡ s
  | None ↦ (is_bad s effect ≡ false) × Acts who now s effect t
]

-- ---- where the effects stop

-- the client isn't told, or isn't closed where its outbox has no space
abbrev pub FailsToTell : Who → ℕ → History → Entry → CoreFault → Type 0
FailsToTell who now h entry fault = StopsAt h now (told_to who.client entry) fault
    ⊎ (IsRefused h now (told_to who.client entry) hub.OutboxFull × StopsAt h now (what.Closed who.client) fault)

-- the command that makes this step isn't done, and nothing has changed
abbrev pub FailsAt : What → ℕ → Scene → CoreFault → Scene → Type 0
FailsAt what now s fault t = StopsAt s.history now what fault × (t ≡ s)

-- the broadcast isn't sent
abbrev pub FailsToEmit : PlainCast → Scene → CoreFault → Scene → Type 0
FailsToEmit e s fault t = CannotBroadcast e s.history fault × (t ≡ s)

-- an entry such as this isn't told: there is no memory to write it, or the client isn't told it
abbrev pub FailsToTellSuch : (Entry → Type 0) → Who → ℕ → History → CoreFault → Type 0
FailsToTellSuch IsSuch who now h fault = (fault ≡ Memory) ⊎ ((entry : Entry) × IsSuch entry × FailsToTell who now h entry fault)

-- the event isn't acknowledged
abbrev pub FailsToReply : Who → (id : ℕ) → reply.Reply → ℕ → Scene → CoreFault → Scene → Type 0
FailsToReply who id r now s fault t = (t ≡ s) × FailsToTellSuch (IsReply who.space id r) who now s.history fault

abbrev pub FailsToSay : Who → (text : List ℕ) → ℕ → Scene → CoreFault → Scene → Type 0
FailsToSay who text now s fault t = (id : ℕ) × (s.asked ≡ Some id) × FailsToReply who id (record { payload = text; attachments = [] }) now s fault t

-- the socket isn't disconnected; its client may have been told already
abbrev pub FailsToDisconnect : Who → ℕ → Scene → CoreFault → Scene → Type 0
FailsToDisconnect who now s fault t = ((fault ≡ Memory) × (t ≡ s)) ⊎ FailsAt (goodbye who) now s fault t
    ⊎ ((between : History) × SaysGoodbye who now s.history between
    × FailsAt (what.Ended who.sid side.Server) now (record s { history = between }) fault t)

-- the sockets don't end
abbrev pub FailsToEndAll : PlainSelection → ℕ → Scene → CoreFault → Scene → Type 0
FailsToEndAll m now s fault t = ((fault ≡ Memory) × (t ≡ s)) ⊎ FailsAt (what.AllEnded (dismissed m s.history)) now s fault t

-- the socket's book has no id left, or no memory
abbrev pub HasNoId : PlainLine → (sid : ℕ) → CoreFault → Type 0
HasNoId line sid fault = (fault ≡ Memory)
    ⊎ ((fault ≡ Spent) × ForEachHistory line (λ o h. ask_refusal 0 (book_calls sid h) ≡ Some ack.Spent))

-- the question isn't asked
abbrev pub AsksNot : Who → PlainLine → CoreFault → PlainLine → Type 0
AsksNot who line fault after = HasNoId line who.sid fault × Advances line [] after

-- it is asked and forgotten, since nobody can be told
abbrev pub AsksInVain : Who → inquiry.Inquiry → ℕ → Scene → CoreFault → PlainLine → Type 0
AsksInVain who q now s fault after = (id : ℕ) × IsNextId s.line who.sid id × Advances s.line (asked_in_vain who now q id) after
    × FailsToTellSuch (IsInquiry who.space id q) who now s.history fault

-- the one or the other, and only the line has changed
abbrev pub FailsToAsk : Who → inquiry.Inquiry → ℕ → Scene → CoreFault → Scene → Type 0
FailsToAsk who q now s fault t = (t ≡ record s { line = t.line })
    × (AsksNot who s.line fault t.line ⊎ AsksInVain who q now s fault t.line)

-- an effect that is allowed isn't done: for want of memory, or since a count or the offset would pass the greatest u64
abbrev pub Fails : Who → ℕ → Scene → Effect → CoreFault → Scene → Type 0
Fails who now s (Join room) fault t = FailsAt (what.Joined who.sid room) now s fault t
Fails who now s (Leave room) fault t = FailsAt (what.Left who.sid room) now s fault t
Fails who now s (Emit e) fault t = FailsToEmit e s fault t
Fails who now s (Reply r) fault t = (id : ℕ) × (s.asked ≡ Some id) × FailsToReply who id r now s fault t
Fails who now s Report fault t = FailsToSay who (report_text s.refused) now s fault t
Fails who now s (Fetch m) fault t = FailsToSay who (listed m s.history) now s fault t
Fails who now s (EmitAsk q) fault t = FailsToAsk who q now s fault t
Fails who now s Disconnect fault t = FailsToDisconnect who now s fault t
Fails who now s (AllJoin m room) fault t = FailsAt (all_joined m room s.history) now s fault t
Fails who now s (AllLeave m room) fault t = FailsAt (all_left m room s.history) now s fault t
Fails who now s (AllEnd m) fault t = FailsToEndAll m now s fault t

-- the effect ends the event with this fault
abbrev pub Stops : Who → ℕ → Scene → Effect → CoreFault → Scene → Type 0
Stops who now s effect fault t = (s.done.closed ≡ None)
    × (((is_bad s effect ≡ true) × (fault ≡ BadEffect) × (t ≡ s)) ⊎ ((is_bad s effect ≡ false) × Fails who now s effect fault t))

-- of a packet of which so many effects were done before, these were done in order until one ended the event
abbrev pub StopsAfter : Who → ℕ → (before : ℕ) → List Effect → Scene → Stopped → Scene → Type 0
StopsAfter who now before effects s stopped t = (done : ℕ) × (stopped.effects ≡ before + done)
    × FailsAfter (ActsInTurn who now) (λ a effect b. Stops who now a effect stopped.fault b) done effects s t

-- the client is open unless it was closed, and its socket is connected unless it was disconnected
pub record StandsWith (who : Who) (s : Scene) : Type 0 where
  pub open_client : is_open s.history.base s.history.journal who.client ≡ is_none s.done.closed
  pub seated : s.done.closed ≡ None → s.ended ≡ false → IsSeated who s.history
