-- What an event does: one step of the machine that the server is.
use Rattle.std.specs.Prelude.{◌≡◌, ◌⊎◌, ℕ, ◌+◌, Bool, true, false, not, List, [], ◌∷◌, None, Some, Ok, Err}
use Rattle.eio_wire.specs.declared.error.WireError.{WireError}
use Rattle.eio_wire.specs.declared.packet.Packet.{Packet}
use Rattle.eio_wire.specs.Handshake.{open_packet_text}
use Rattle.eio_wire.specs.Payload.{Payload, HasFault}
use Rattle.sio_wire.specs.Frames.{held}
use Rattle.connection.specs.declared.clock.Transport.TheVariants.{Socket}
use Rattle.connection.specs.History.{GetBegan, GetEnded}
use Rattle.connection.specs.Line.{PlainLine, LeadsTo}
use Rattle.journal.specs.declared.error.HubError.TheVariants as hub
use Rattle.journal.specs.declared.step.What.TheVariants as what
use Rattle.events.specs.declared.cause.Cause.TheVariants as cause
use Rattle.events.specs.declared.fault.CoreFault.TheVariants.{Memory, UnknownClient, WrongTransport}
use Rattle.events.specs.App.{Policy}
use Rattle.events.specs.Cause.{cause_of_wire}
use Rattle.dispatch.specs.Commands.{Makes, IsRefused, StopsAt}
use Rattle.dispatch.specs.Runs.{Runs}
use Rattle.dispatch.specs.Scene.{Visit, visit_at}
use Rattle.events.specs.declared.event.Event.{Event}
use Rattle.events.specs.declared.event.Event.TheVariants as event
use Rattle.events.specs.declared.event.WsFrame.{WsFrame}
use Rattle.events.specs.declared.outcome.Outcome.{Outcome}
use Rattle.events.specs.declared.outcome.Outcome.TheVariants as outcome
use Rattle.events.specs.Answer.{Answer, at_once}
use Rattle.dispatch.specs.Answers.{Refused, ChangesNone, KeepsWhileOpen, AdvancesLine, ClosesUnread, ForClient, ForVisit}
use Rattle.dispatch.specs.Frames.{is_too_long, IsFrameOf, IsNoFrame, SendsFor}
use Rattle.dispatch.specs.Packets.{Course, course, HandlesInTurn, BreaksAfter}
use Rattle.dispatch.specs.Effects.{Scene}
use Rattle.events.specs.Plain.{nothing_done}
use Rattle.journal.specs.Journal.{History}
use Rattle.dispatch.specs.Hearing.{ended_since}
use Rattle.events.specs.Event.{client_of}
use Rattle.dispatch.specs.Hearing.{HearsAfter}
use Rattle.dispatch.specs.declared.clients.Handshake.{Handshake}
use Rattle.dispatch.specs.Holding.{Holding, HasLine, LosesLine, Standing}
use Rattle.dispatch.specs.Takes.{IsOn, Polls, IsGetting, TakesFor}
use Rattle.dispatch.specs.Upgrade.{Probes, Upgrades, LosesProbe}
use Rattle.dispatch.specs.Upkeep.{Ticks, Sweeps}
use Rattle.dispatch.specs.Parking.{FailsToPark}

-- the event is of this client; the one that is opened has the next id, and a sweep is of each client
abbrev pub IsOf : Event → (ids : ℕ → ℕ) → ℕ → Type 0
IsOf (event.Opened socket) ids c = c ≡ ids 0
IsOf (event.Post d body) ids c = c ≡ d
IsOf (event.Frame d frame) ids c = c ≡ d
IsOf (event.PollBegin d) ids c = c ≡ d
IsOf (event.PollEnd d) ids c = c ≡ d
IsOf (event.PollTake d most) ids c = c ≡ d
IsOf (event.FrameTake d most) ids c = c ≡ d
IsOf (event.Probe d) ids c = c ≡ d
IsOf (event.Upgraded d) ids c = c ≡ d
IsOf (event.ProbeLost d) ids c = c ≡ d
IsOf (event.TransportLost d) ids c = c ≡ d
IsOf (event.Tick d) ids c = c ≡ d
IsOf event.Sweep ids c = Unit {0}

-- the clients, other than the event's own, that got something: a list for each broadcast
abbrev pub listed : Outcome → List (List ℕ)
listed (outcome.Done done) = done.clients
listed (outcome.Lost saved done) = done.clients
listed (outcome.Ticked ping done) = done.clients
listed _ = []

-- ---- a client that is opened (Engine.IO protocol 4, "Handshake")

-- a client with this id is opened, and told the open packet; the line's history begins now
abbrev pub Opens : Handshake → (socket : Bool) → Visit → Holding → Answer → Holding → Type 0
Opens told socket visit s (Ok (outcome.Opened o)) t =
    (o.client ≡ visit.client) × (o.text ≡ open_packet_text visit.client (not socket) told.numbers)
    × Makes s.history visit.moment (what.Opened visit.client) t.history
    × HasLine visit.client (λ line. LeadsTo (record { now = visit.moment; timing = told.timing; socket = socket }) [] line) s t
Opens told socket visit s (Ok _) t = ⊥
Opens told socket visit s (Err e) t = StopsAt s.history visit.moment (what.Opened visit.client) e.fault × ChangesNone e s t

-- ---- a GET (Engine.IO protocol 4, "HTTP long-polling")

-- a GET begins to wait; a second one closes the client
abbrev pub Begins : Visit → PlainLine → Holding → Answer → Holding → Type 0
Begins visit line s answer t =
    (IsOn Socket line × Refused WrongTransport s answer t)
    ⊎ (Polls line × IsGetting true line × ClosesUnread cause.DoubleGet visit s answer t)
    ⊎ (Polls line × IsGetting false line × (answer ≡ Ok outcome.Begun) × AdvancesLine visit.client line (GetBegan ∷ []) s t)

-- a GET waits no more
abbrev pub Ends : ℕ → PlainLine → Holding → Answer → Holding → Type 0
Ends c line s (Ok (outcome.Done done)) t = (done ≡ nothing_done) × AdvancesLine c line (GetEnded ∷ []) s t
Ends c line s _ t = ⊥

-- the payload for a GET is taken
abbrev pub Takes : (most : ℕ) → Visit → PlainLine → Holding → Answer → Holding → Type 0
Takes most visit line s (Ok outcome) t =
    HasLine visit.client (λ after. TakesFor visit.client most visit.moment (Ok outcome) s.history t.history line after) s t
Takes most visit line s (Err e) t = (e ≡ at_once e.fault)
    × HasLine visit.client (λ after. TakesFor visit.client most visit.moment (Err e.fault) s.history t.history line after) s t

-- ---- a WebSocket

-- the frames for a WebSocket are taken
abbrev pub TakesFrames : (most : ℕ) → Visit → PlainLine → Holding → Answer → Holding → Type 0
TakesFrames most visit line s (Ok outcome) t =
    HasLine visit.client (λ after. SendsFor visit.client most visit.moment (Ok outcome) s.history t.history line after) s t
TakesFrames most visit line s (Err e) t = (e ≡ at_once e.fault)
    × HasLine visit.client (λ after. SendsFor visit.client most visit.moment (Err e.fault) s.history t.history line after) s t

-- ---- a connection that is lost

-- the client's sessions are saved, or where they have no space it is closed
abbrev pub Loses : Visit → Holding → Answer → Holding → Type 0
Loses visit s (Ok (outcome.Lost true done)) t =
    (done ≡ nothing_done) × Makes s.history visit.moment (what.Parked visit.client) t.history × LosesLine visit.client s t
Loses visit s (Ok (outcome.Lost false done)) t =
    (done ≡ nothing_done)
    × IsRefused s.history visit.moment (what.Parked visit.client) hub.SavedFull
    × Makes s.history visit.moment (what.Closed visit.client) t.history × LosesLine visit.client s t
Loses visit s (Ok _) t = ⊥
Loses visit s (Err e) t = ChangesNone e s t × FailsToPark s.history visit.moment visit.client e.fault

-- ---- an event whose packets are worked on

-- the scene before the first packet
abbrev pub opening : History → PlainLine → Scene
opening history line = record { history = history; line = line; done = nothing_done; asked = None; refused = None; ended = false }

-- and the course
abbrev pub begins_at : Standing → PlainLine → Course
begins_at s line = course (opening s.core.history line) s.ids

-- it is answered so, and no id is drawn
abbrev pub DrawsNoId : (Holding → Answer → Holding → Type 0) → Standing → Answer → Standing → Type 0
DrawsNoId does s answer t = does s.core answer t.core × (t.ids ≡ s.ids)

module _ (policy : Policy) (visit : Visit) where
  -- the packets of a payload in order, until one closes the client or the event ends; the answer tells what is held then of
  -- a packet that isn't whole
  abbrev pub WorksOn : List Packet → PlainLine → Standing → Answer → Standing → Type 0
  WorksOn packets line s (Ok (outcome.Done done)) t = (m : Course)
      × Runs (HandlesInTurn policy visit) packets (begins_at s line) m
      × (done ≡ record m.scene.done { unfinished = held m.scene.line.assembler }) × (t.core.history ≡ m.scene.history)
      × KeepsWhileOpen visit.client m.scene.done m.scene.line s.core t.core × (t.ids ≡ m.ids)
  WorksOn packets line s (Ok _) t = ⊥
  WorksOn packets line s (Err e) t = (m : Course)
      × BreaksAfter policy visit packets (begins_at s line) e m
      × (t.core.history ≡ m.scene.history) × HasLine visit.client (λ after. after ≡ m.scene.line) s.core t.core × (t.ids ≡ m.ids)

  -- the whole payload is read first; a fault closes the client
  abbrev pub Posts : (body : List ℕ) → PlainLine → Standing → Answer → Standing → Type 0
  Posts body line s answer t =
      (IsOn Socket line × DrawsNoId (Refused WrongTransport) s answer t)
      ⊎ (Polls line × (DrawsNoId (Refused Memory) s answer t
      ⊎ ((packets : List Packet) × Payload packets body × WorksOn packets line s answer t)
      ⊎ ((fault : WireError) × HasFault body fault × DrawsNoId (ClosesUnread (cause_of_wire fault) visit) s answer t)))

  abbrev pub PostsFor : (body : List ℕ) → Standing → Answer → Standing → Type 0
  PostsFor body s answer t = elim (s.core.lines visit.client) [
    | None ↦ DrawsNoId (Refused UnknownClient) s answer t
    | Some line ↦ Posts body line s answer t
  ]

  -- a frame is one packet, which is worked on as a payload's; a fault closes the client
  abbrev pub ReadsFrame : WsFrame → PlainLine → Standing → Answer → Standing → Type 0
  ReadsFrame frame line s answer t =
      DrawsNoId (Refused Memory) s answer t
      ⊎ ((packet : Packet) × IsFrameOf packet frame × WorksOn (packet ∷ []) line s answer t)
      ⊎ ((fault : WireError) × IsNoFrame frame fault × DrawsNoId (ClosesUnread (cause_of_wire fault) visit) s answer t)

  -- one that is too long closes the client, and isn't read
  abbrev pub ReceivesOne : WsFrame → PlainLine → Standing → Answer → Standing → Type 0
  ReceivesOne frame line s answer t = elim (is_too_long frame) [
    | true ↦ DrawsNoId (ClosesUnread cause.TooLong visit) s answer t
    | false ↦ ReadsFrame frame line s answer t
  ]

  abbrev pub Receives : WsFrame → PlainLine → Standing → Answer → Standing → Type 0
  Receives frame line s answer t =
      (Polls line × DrawsNoId (Refused WrongTransport) s answer t)
      ⊎ (IsOn Socket line × ReceivesOne frame line s answer t)

  abbrev pub ReceivesFor : WsFrame → Standing → Answer → Standing → Type 0
  ReceivesFor frame s answer t = elim (s.core.lines visit.client) [
    | None ↦ DrawsNoId (Refused UnknownClient) s answer t
    | Some line ↦ Receives frame line s answer t
  ]

-- ---- an event

module _ (policy : Policy) (told : Handshake) (now : ℕ) where
  -- the row of each event
  abbrev pub Row : Event → Standing → Answer → Standing → Type 0
  Row (event.Opened socket) s answer t = Opens told socket (visit_at (s.ids 0) now) s.core answer t.core × (t.ids ≡ (λ k. s.ids (k + 1)))
  Row (event.Post c body) s answer t = PostsFor policy (visit_at c now) body s answer t
  Row (event.Frame c frame) s answer t = ReceivesFor policy (visit_at c now) frame s answer t
  Row (event.PollBegin c) s answer t = DrawsNoId (ForVisit (visit_at c now) Begins) s answer t
  Row (event.PollEnd c) s answer t = DrawsNoId (ForClient c (Ends c)) s answer t
  Row (event.PollTake c most) s answer t = DrawsNoId (ForVisit (visit_at c now) (Takes most)) s answer t
  Row (event.FrameTake c most) s answer t = DrawsNoId (ForVisit (visit_at c now) (TakesFrames most)) s answer t
  Row (event.Probe c) s answer t = DrawsNoId (ForClient c (Probes c)) s answer t
  Row (event.Upgraded c) s answer t = DrawsNoId (ForClient c (Upgrades c)) s answer t
  Row (event.ProbeLost c) s answer t = DrawsNoId (ForClient c (LosesProbe c)) s answer t
  Row (event.TransportLost c) s answer t = DrawsNoId (ForVisit (visit_at c now) (λ visit line. Loses visit)) s answer t
  Row (event.Tick c) s answer t = DrawsNoId (ForVisit (visit_at c now) Ticks) s answer t
  Row event.Sweep s answer t = DrawsNoId (Sweeps now) s answer t

  -- the event is answered and leads somewhere as its row says, and then the app hears of the sockets that ended by that
  abbrev pub Does : Event → Standing → Answer → Standing → Type 0
  Does event s answer t = (h : History) × (said : Answer)
      × Row event s said (record t { core = record t.core { history = h } })
      × HearsAfter policy now (client_of event) (ended_since s.core.history h) h said answer t.core.history

-- ---- the machine

-- each event in turn, at its moment, is answered as its row says
unfoldable pub Machine : Policy → Handshake → List (Event × ℕ) → List Answer → Standing → Standing → Type 0
Machine policy told [] [] s t = t ≡ s
Machine policy told (turn ∷ turns) (answer ∷ answers) s t = (m : Standing)
    × Does policy told turn.1 turn.0 s answer m × Machine policy told turns answers m t
Machine policy told _ _ s t = ⊥
