-- What the packets of a client do (Engine.IO protocol 4, "Packet types"; Socket.IO protocol 5, "Exchange protocol";
-- Socket.IO server documentation, "Connection state recovery").
use Rattle.std.specs.Prelude.{◌≡◌, ◌≢◌, ◌⊎◌, ◌<◌, ◌^◌, ℕ, ◌+◌, true, false, List, [], ◌∷◌, ◌++◌, length, Option, None, Some, Result, Ok, Err, codes}
use Rattle.eio_wire.specs.Payload.{IsWhole}
use Rattle.eio_wire.specs.declared.packet.Packet.{Packet}
use Rattle.eio_wire.specs.declared.packet.Packet.TheVariants as eio
use Rattle.terms.specs.Ids.{id_digits}
use Rattle.terms.specs.declared.entry.Entry.{Entry}
use Rattle.sio_wire.specs.declared.assembler.SioPacket.{SioPacket}
use Rattle.sio_wire.specs.declared.header.Kind.{Kind}
use Rattle.sio_wire.specs.declared.header.Kind.TheVariants as kind
use Rattle.sio_wire.specs.declared.assembler.Progress.TheVariants.{Failed}
use Rattle.sio_wire.specs.declared.error.SioError.{SioError}
use Rattle.sio_wire.specs.declared.error.SioError.TheVariants as sio
use Rattle.sio_wire.specs.declared.tree.Resume.{Resume}
use Rattle.sio_wire.specs.ConnectAnswer.{refused_text}
use Rattle.sio_wire.specs.Frames.{Frame, text, binary, Accepts, RefusesText, binary_refusal, exceeds}
use Rattle.sio_wire.specs.JsonFields.{resume_at}
use Rattle.sio_wire.specs.Offset.{offset_digits}
use Rattle.connection.specs.Questions.{question_at}
use Rattle.connection.specs.declared.ack_book.Question.{Question}
use Rattle.connection.specs.History.{Framed, Ponged, Connected, Disconnected, Answered, book_calls}
use Rattle.connection.specs.Line.{PlainLine, ForEachHistory, Advances, IsWholeIfGiven}
use Rattle.journal.specs.declared.error.HubError.TheVariants as hub
use Rattle.journal.specs.declared.step.What.{What}
use Rattle.journal.specs.declared.ending.Side.TheVariants as side
use Rattle.journal.specs.declared.step.What.TheVariants as what
use Rattle.journal.specs.Membership.{place_of, is_space, socket_of}
use Rattle.journal.specs.Sessions.{rooms_rising}
use Rattle.hub_state.specs.Words.{rooms_now}
use Rattle.events.specs.declared.app.Newcomer.{Newcomer}
use Rattle.events.specs.declared.app.Arrived.{Arrived}
use Rattle.events.specs.declared.app.Arrived.TheVariants as arrived
use Rattle.events.specs.declared.app.Effect.{Effect}
use Rattle.events.specs.declared.app.Who.{Who}
use Rattle.events.specs.declared.cause.Cause.{Cause}
use Rattle.events.specs.declared.cause.Cause.TheVariants as cause
use Rattle.events.specs.declared.fault.CoreFault.{CoreFault}
use Rattle.events.specs.declared.fault.CoreFault.TheVariants.{Memory}
use Rattle.events.specs.App.{Policy, Accepted, Refused, IsCleanArrival, AllClean}
use Rattle.events.specs.Cause.{cause_of_sio}
use Rattle.events.specs.Plain.{one_packet_more}
use Rattle.dispatch.specs.Commands.{Makes, IsRefused, StopsAt, CannotRecover, IsSeated, seat}
use Rattle.hub_state.specs.Recovering.{recovery_asked}
use Rattle.dispatch.specs.Effects.{Scene, IsOpenFor, told_to, counted, Closes, ActsInTurn, StopsAfter}
use Rattle.events.specs.declared.fault.CoreError.{CoreError}
use Rattle.events.specs.declared.fault.Stopped.{Stopped}
use Rattle.dispatch.specs.Runs.{Runs, FailsAfter}
use Rattle.dispatch.specs.Scene.{Visit, visit_of, seen, IsSameEvent}
use Rattle.dispatch.specs.declared.scene.Scene as values
use Rattle.dispatch.specs.Parking.{ParksOrCloses, FailsToPark}

-- where an event stands between two packets: a scene, and the ids to come
pub record Course : Type 0 where
  pub scene : Scene
  pub ids : ℕ → ℕ

abbrev pub course : Scene → (ℕ → ℕ) → Course
course scene ids = record { scene = scene; ids = ids }

-- the client is open, and nothing of its packet was done yet that ends its work
abbrev pub IsReady : values.Scene → Type 0
IsReady scene = IsOpenFor scene.visit.client (seen scene) × ((seen scene).done.closed ≡ None) × ((seen scene).ended ≡ false)

-- the client has no socket in this namespace, which is the hub's
abbrev pub IsFreeIn : (space : List ℕ) → ℕ → Scene → Type 0
IsFreeIn space c s = let place = place_of s.history.limits space in
    (is_space s.history.limits place ≡ true) × (socket_of s.history.base s.history.journal c place ≡ None)

-- how a packet is answered: done, or the event ends with a fault after so many effects of it
abbrev pub Upshot : Type 0
Upshot = Result (Unit {0}) Stopped

-- of a scene that is worked on, and the ids to come
abbrev pub course_of : values.Scene × (ℕ → ℕ) → Course
course_of at = course (seen at.0) at.1

-- the event goes on from the one to the other, and is answered so
abbrev pub Draws : (Visit → Course → Upshot → Course → Type 0)
    → (old : values.Scene × (ℕ → ℕ)) → Upshot → (new : values.Scene × (ℕ → ℕ)) → Type 0
Draws does old result new = IsSameEvent old.0 new.0 × does (visit_of old.0.visit) (course_of old) result (course_of new)

-- the event ends with this fault, and nothing was done
abbrev pub StopsFor : CoreFault → Scene → Stopped → Scene → Type 0
StopsFor fault s e t = (e ≡ record { fault = fault; effects = 0 }) × (t ≡ s)

-- there is no memory for what was to be done, after so many effects
abbrev pub IsShortAfter : (before : ℕ) → Scene → Upshot → Scene → Type 0
IsShortAfter before s (Ok done) t = ⊥
IsShortAfter before s (Err e) t = (e ≡ record { fault = Memory; effects = before }) × (t ≡ s)

-- nor for the first of it
abbrev pub IsShort : Scene → Upshot → Scene → Type 0
IsShort s result t = IsShortAfter 0 s result t

-- it is done so, and no id is drawn
abbrev pub DrawsNone : (Scene → Upshot → Scene → Type 0) → Course → Upshot → Course → Type 0
DrawsNone Does s result t = Does s.scene result t.scene × (t.ids ≡ s.ids)

-- ---- closing and telling

-- the client is closed for this cause
abbrev pub ClosesFor : Cause → Visit → Scene → Upshot → Scene → Type 0
ClosesFor why visit s (Ok done) t = Closes visit.client visit.moment why s t
ClosesFor why visit s (Err e) t = StopsAt s.history visit.moment (what.Closed visit.client) e.fault × StopsFor e.fault s e t

-- its sessions are saved, or where they have no space it is closed; it closed itself
abbrev pub ParksFor : Visit → Scene → Upshot → Scene → Type 0
ParksFor visit s (Ok done) t = ParksOrCloses s.history visit.moment visit.client t.history
    × (t ≡ record s { history = t.history; done = record s.done { closed = Some cause.ClientClosed } })
ParksFor visit s (Err e) t = FailsToPark s.history visit.moment visit.client e.fault × StopsFor e.fault s e t

-- the client is told that it isn't connected, or closed where its outbox has no space for that
abbrev pub refusal_entry : (space message : List ℕ) → Entry
refusal_entry space message = record { text = refused_text space message; attachments = [] }

abbrev pub Refuses : (space message : List ℕ) → Visit → Scene → Upshot → Scene → Type 0
Refuses space message visit s (Ok done) t = let told = told_to visit.client (refusal_entry space message) in
    (Makes s.history visit.moment told t.history × (t ≡ record s { history = t.history }))
    ⊎ (IsRefused s.history visit.moment told hub.OutboxFull × Closes visit.client visit.moment cause.OutboxFull s t)
Refuses space message visit s (Err e) t = let told = told_to visit.client (refusal_entry space message) in
    (StopsAt s.history visit.moment told e.fault
    ⊎ (IsRefused s.history visit.moment told hub.OutboxFull × StopsAt s.history visit.moment (what.Closed visit.client) e.fault))
    × StopsFor e.fault s e t

-- ---- packets of a socket

-- the app's effects, of which so many were done before
abbrev pub DoesAll : Who → ℕ → (before : ℕ) → List Effect → Scene → Upshot → Scene → Type 0
DoesAll who now before effects s (Ok done) t = Runs (ActsInTurn who now) effects s t
DoesAll who now before effects s (Err e) t = StopsAfter who now before effects s e t

-- the socket leaves its namespace (Socket.IO protocol 5, "Disconnection from a namespace")
abbrev pub ClientDisconnects : Who → Visit → Scene → Upshot → Scene → Type 0
ClientDisconnects who visit s (Ok done) t =
    Makes s.history visit.moment (what.Ended who.sid side.Client) t.history × Advances s.line (Disconnected who.sid ∷ []) t.line
    × (t ≡ record s { history = t.history; line = t.line })
ClientDisconnects who visit s (Err e) t = StopsAt s.history visit.moment (what.Ended who.sid side.Client) e.fault × StopsFor e.fault s e t

module _ (policy : Policy) where
  -- after so many effects the app decides what is done where something arrived; U+001E comes into no effect where none arrived
  abbrev pub DecidesAfter : (before : ℕ) → Who → Arrived → Visit → Scene → Upshot → Scene → Type 0
  DecidesAfter before who arrived visit s result t = IsShortAfter before s result t
      ⊎ ((effects : List Effect) × policy.decides who arrived effects × (IsCleanArrival arrived → AllClean effects)
      × DoesAll who visit.moment before effects s result t)

  abbrev pub Decides : Who → Arrived → Visit → Scene → Upshot → Scene → Type 0
  Decides who arrived visit s result t = DecidesAfter 0 who arrived visit s result t

-- with this payload and these attachments something comes for a socket
module _ (policy : Policy) (who : Who) (payload : List ℕ) (attachments : List (List ℕ)) where
  -- an answer to no question of its socket is noted as ignored, and the app decides: it may be to a question that was asked
  -- of a room
  abbrev pub ReceivesStray : (id : ℕ) → Visit → Scene → Upshot → Scene → Type 0
  ReceivesStray id visit s result t =
      Decides policy who (arrived.Stray (record { id = id; payload = payload; attachments = attachments }))
      visit (record s { done = record s.done { ignored = true } }) result t

  -- the answer to a question that isn't open is a stray one; else the question is forgotten, and the app decides (Socket.IO
  -- protocol 5, "Acknowledgement")
  abbrev pub TakesAnswer : (id : ℕ) → Visit → Scene → Upshot → Scene → Type 0
  TakesAnswer id visit s result t =
      ((line : PlainLine) × ForEachHistory s.line (λ o h. question_at 0 (book_calls who.sid h) id ≡ None)
      × Advances s.line [] line × ReceivesStray id visit (record s { line = line }) result t)
      ⊎ ((question : Question) × (line : PlainLine)
      × ForEachHistory s.line (λ o h. question_at 0 (book_calls who.sid h) id ≡ Some question)
      × Advances s.line (Answered who.sid id ∷ []) line
      × Decides policy who (arrived.Answer (record { tag = question.tag; payload = payload; attachments = attachments }))
      visit (record s { line = line }) result t)

  abbrev pub TakesAck : Option ℕ → Visit → Scene → Upshot → Scene → Type 0
  TakesAck None visit s result t = (result ≡ Ok tt) × (t ≡ record s { done = record s.done { ignored = true } })
  TakesAck (Some id) visit s result t = TakesAnswer id visit s result t

  -- an event with an id asks to be acknowledged
  abbrev pub ReceivesEvent : Option ℕ → Visit → Scene → Upshot → Scene → Type 0
  ReceivesEvent id visit s result t =
      Decides policy who (arrived.Event (record { payload = payload; attachments = attachments; id = id })) visit (record s { asked = id }) result t

  -- what a packet of a connected socket does; a CONNECT_ERROR is ignored
  abbrev pub Serves : Kind → Option ℕ → Visit → Scene → Upshot → Scene → Type 0
  Serves kind.Disconnect id visit s result t = ClientDisconnects who visit s result t
  Serves kind.Event id visit s result t = ReceivesEvent id visit s result t
  Serves kind.BinaryEvent id visit s result t = ReceivesEvent id visit s result t
  Serves kind.Ack id visit s result t = TakesAck id visit s result t
  Serves kind.BinaryAck id visit s result t = TakesAck id visit s result t
  Serves _ id visit s result t = (result ≡ Ok tt) × (t ≡ s)

-- the socket to be in a namespace, with this id
abbrev pub socket_in : ℕ → (space : List ℕ) → (sid : ℕ) → Who
socket_in c space sid = record { client = c; space = space; sid = sid }

module _ (policy : Policy) where
  -- a packet for a namespace that the client hasn't joined closes it
  abbrev pub ServesJoined : SioPacket → Visit → Scene → Upshot → Scene → Type 0
  ServesJoined p visit s result t = let header = p.header in
      elim (socket_of s.history.base s.history.journal visit.client (place_of s.history.limits header.space)) [
        | None ↦ ClosesFor cause.NotJoined visit s result t
        | Some k ↦ IsSeated (socket_in visit.client header.space k.sid) s.history
            × Serves policy (socket_in visit.client header.space k.sid) header.payload p.attachments header.kind header.id visit s result t
      ]

-- ---- connecting (Socket.IO protocol 5, "Connection to a namespace")

-- the digits of a session's private id and of an offset
abbrev pub digits_of : (pid offset : ℕ) → Resume
digits_of pid offset = record { pid = id_digits pid; offset = offset_digits offset }

-- the payload names this session and this offset, and so no other
abbrev pub Names : (payload : List ℕ) → Option (ℕ × ℕ) → Type 0
Names payload (Some named) = (named.0 < 2 ^ 128) × (named.1 < 2 ^ 64)
    × (resume_at payload ≡ Ok (Some (digits_of named.0 named.1)))
Names payload None =
    (pid offset : ℕ) → offset < 2 ^ 64 → resume_at payload ≢ Ok (Some (digits_of pid offset))

-- the socket is connected, and the app's effects follow; or its client has no space for the answer and is closed
abbrev pub ConnectsAs : Who → (pid : ℕ) → List Effect → Visit → Scene → Upshot → Scene → Type 0
ConnectsAs who pid effects visit s result t = let attached = what.Attached (seat who pid s.history) in
    ((between : Scene) × Makes s.history visit.moment attached between.history × Advances s.line (Connected who.sid ∷ []) between.line
    × (between ≡ record (counted s) { history = between.history; line = between.line }) × DoesAll who visit.moment 1 effects between result t)
    ⊎ (IsRefused s.history visit.moment attached hub.OutboxFull × ClosesFor cause.OutboxFull visit s result t)
    ⊎ ((e : Stopped) × (result ≡ Err e) × StopsAt s.history visit.moment attached e.fault × StopsFor e.fault s e t)

-- the socket comes with this payload, of which nothing is verified
abbrev pub newcomer : (payload : List ℕ) → Newcomer
newcomer payload = record { payload = payload; claims = [] }

module _ (policy : Policy) where
  -- what the app wants where it lets a socket in, and then what it wants where that has connected
  abbrev pub Greets : Who → (payload : List ℕ) → List Effect → List Effect → Type 0
  Greets who payload effects all = (more : List Effect) × policy.decides who (arrived.Connected (newcomer payload)) more
      × (IsWhole payload → AllClean more) × (all ≡ effects ++ more)

  -- the session comes back, and the app decides what is done where it has
  abbrev pub ComesBack : What → Who → Visit → Scene → Upshot → Scene → Type 0
  ComesBack back who visit s result t = (between : Scene) × Makes s.history visit.moment back between.history
      × Advances s.line (Connected who.sid ∷ []) between.line
      × (between ≡ record (counted s) { history = between.history; line = between.line })
      × DecidesAfter policy 1 who (arrived.Returned (rooms_rising (rooms_now between.history) who.sid)) visit between result t

-- a CONNECT to this namespace, with this payload
module _ (policy : Policy) (space payload : List ℕ) where
  -- the socket has the next two ids, and the app decides what is done where it has connected
  abbrev pub Connects : List Effect → Visit → Course → Upshot → Course → Type 0
  Connects effects visit s result t = let who = socket_in visit.client space (s.ids 0) in
      (t.ids ≡ (λ k. s.ids (k + 2)))
      × (IsShort s.scene result t.scene
      ⊎ ((all : List Effect) × Greets policy who payload effects all × ConnectsAs who (s.ids 1) all visit s.scene result t.scene))

  -- the app says whether the socket is connected; U+001E comes into no effect where none stands in the payload
  abbrev pub AsksApp : Visit → Course → Upshot → Course → Type 0
  AsksApp visit s result t = DrawsNone IsShort s result t
      ⊎ ((effects : List Effect) × policy.allows visit.moment space payload (Accepted effects) × (IsWhole payload → AllClean effects)
      × Connects effects visit s result t)
      ⊎ ((message : List ℕ) × policy.allows visit.moment space payload (Refused message)
      × DrawsNone (Refuses space message visit) s result t)

  -- the session that the payload names comes back; where it can't come back, the app is asked
  abbrev pub AsksToRecover : (pid offset : ℕ) → Visit → Course → Upshot → Course → Type 0
  AsksToRecover pid offset visit s result t = let r = recovery_asked visit.client space pid offset s.scene.history in
      DrawsNone (ComesBack policy (what.Recovered r) (socket_in visit.client space r.socket.sid) visit) s result t
      ⊎ (CannotRecover s.scene.history visit.moment (what.Recovered r) × AsksApp visit s result t)
      ⊎ ((e : Stopped) × (result ≡ Err e) × StopsAt s.scene.history visit.moment (what.Recovered r) e.fault
      × StopsFor e.fault s.scene e t.scene × (t.ids ≡ s.ids))

  abbrev pub MayRecover : Visit → Course → Upshot → Course → Type 0
  MayRecover visit s result t = DrawsNone IsShort s result t
      ⊎ (Names payload None × AsksApp visit s result t)
      ⊎ ((named : ℕ × ℕ) × Names payload (Some named) × AsksToRecover named.0 named.1 visit s result t)

  -- a CONNECT to a namespace that isn't there is refused; one to a namespace that the client has joined closes it
  abbrev pub AsksToConnect : Visit → Course → Upshot → Course → Type 0
  AsksToConnect visit s result t = let h = s.scene.history in
      elim (is_space h.limits (place_of h.limits space)) [
        | false ↦ DrawsNone (Refuses space (codes "Invalid namespace") visit) s result t
        | true ↦ elim (socket_of h.base h.journal visit.client (place_of h.limits space)) [
          | Some k ↦ DrawsNone (ClosesFor cause.AlreadyConnected visit) s result t
          | None ↦ MayRecover visit s result t
        ]
      ]

-- ---- a packet

-- the same course with this line
abbrev pub with_line : Course → PlainLine → Course
with_line s line = record s { scene = record s.scene { line = line } }

-- one packet more is worked on, which asks for no acknowledgement yet
abbrev pub begun : Course → Course
begun s = record s { scene = record s.scene { done = one_packet_more s.scene.done; asked = None; refused = None; ended = false } }

module _ (policy : Policy) where
  -- a packet that came whole
  abbrev pub Works : SioPacket → Visit → Course → Upshot → Course → Type 0
  Works p visit s result t = elim p.header.kind [
    | kind.Connect ↦ AsksToConnect policy p.header.space p.header.payload visit s result t
    | _ ↦ DrawsNone (ServesJoined policy p visit) s result t
  ]

  -- what comes of what the assembler answered; U+001E stands neither in the packet's namespace nor in its payload
  abbrev pub GoesOn : Result (Option SioPacket) SioError → Visit → Course → Upshot → Course → Type 0
  GoesOn (Ok None) visit s result t = (result ≡ Ok tt) × (t ≡ s)
  GoesOn (Ok (Some p)) visit s result t = IsWholeIfGiven (Some p) × Works p visit s result t
  GoesOn (Err sio.Memory) visit s result t = DrawsNone IsShort s result t
  GoesOn (Err error) visit s result t = DrawsNone (ClosesFor (cause_of_sio error) visit) s result t

  -- a frame that the assembler took is kept, or the packet that it makes whole is worked on
  abbrev pub TakesFrame : Frame → Visit → Course → Upshot → Course → Type 0
  TakesFrame frame visit s result t = (given : Option SioPacket) × (line : PlainLine)
      × Accepts s.scene.line.assembler frame given line.assembler × Advances s.scene.line (Framed frame ∷ []) line
      × GoesOn (Ok given) visit (with_line s line) result t

  -- one that it refuses closes the client
  abbrev pub RefusesFrame : SioError → Visit → Course → Upshot → Course → Type 0
  RefusesFrame error visit s result t = GoesOn (Err error) visit (with_line s (record s.scene.line { assembler = Failed error })) result t

  -- for want of memory nothing is done
  abbrev pub TakesText : List ℕ → Visit → Course → Upshot → Course → Type 0
  TakesText content visit s result t = DrawsNone IsShort s result t
      ⊎ TakesFrame (text content) visit s result t
      ⊎ ((error : SioError) × RefusesText s.scene.line.assembler content error × RefusesFrame error visit s result t)

  abbrev pub ReadsBinary : List ℕ → Visit → Course → Upshot → Course → Type 0
  ReadsBinary content visit s result t = DrawsNone IsShort s result t
      ⊎ TakesFrame (binary content) visit s result t
      ⊎ ((error : SioError) × (binary_refusal s.scene.line.assembler ≡ Some error) × RefusesFrame error visit s result t)

  -- bytes that, with the attachments that came so far, are more than may wait for the client close it, and aren't kept (own)
  abbrev pub TakesBinary : List ℕ → Visit → Course → Upshot → Course → Type 0
  TakesBinary content visit s result t = elim (exceeds s.scene.line.assembler s.scene.history.limits.bytes (length content)) [
    | true ↦ DrawsNone (ClosesFor cause.TooLong visit) s result t
    | false ↦ ReadsBinary content visit s result t
  ]

  -- what a packet does; those that only a server sends, and an upgrade outside of one, are ignored
  abbrev pub Handles : Packet → Visit → Course → Upshot → Course → Type 0
  Handles (eio.Close content) visit s result t = DrawsNone (ParksFor visit) s result t
  Handles (eio.Ping content) visit s result t = DrawsNone (ClosesFor cause.PingFromClient visit) s result t
  Handles (eio.Pong content) visit s result t = (result ≡ Ok tt)
      × Advances s.scene.line (Ponged visit.moment ∷ []) t.scene.line × (t ≡ with_line s t.scene.line)
  Handles (eio.Message content) visit s result t = TakesText content visit s result t
  Handles (eio.Binary content) visit s result t = TakesBinary content visit s result t
  Handles _ visit s result t = (result ≡ Ok tt) × (t ≡ s)

module _ (policy : Policy) (visit : Visit) where
  -- a packet in its turn: after the client was closed nothing more is done
  abbrev pub HandlesOrBreaks : Packet → Course → Upshot → Course → Type 0
  HandlesOrBreaks packet s result t = elim s.scene.done.closed [
    | Some why ↦ (result ≡ Ok tt) × (t ≡ s)
    | None ↦ Handles policy packet visit (begun s) result t
  ]

  abbrev pub HandlesInTurn : Course → Packet → Course → Type 0
  HandlesInTurn s packet t = HandlesOrBreaks packet s (Ok tt) t

  -- so many of the packets were done, and the next one ends the event after so many of its effects
  abbrev pub BreaksAfter : List Packet → Course → CoreError → Course → Type 0
  BreaksAfter packets s e t =
      FailsAfter HandlesInTurn (λ a packet b. HandlesOrBreaks packet a (Err (record { fault = e.fault; effects = e.effects })) b)
      e.packets packets s t
