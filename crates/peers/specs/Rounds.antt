-- The rounds of a WebSocket (Engine.IO protocol 4, "WebSocket" and "Upgrade"): a read, a take, and a look at the time.
use Rattle.std.specs.Prelude.{◌≡◌, ℕ, Bool, true, false, List, Option, None, Some, Result, Ok, Err, cond, codes, bytes_eq, length}
use Rattle.events.specs.declared.event.Event.{Event}
use Rattle.events.specs.declared.event.Event.TheVariants as event
use Rattle.events.specs.declared.event.WsFrame.TheVariants as frame
use Rattle.events.specs.declared.peer.PeerFault.{PeerFault}
use Rattle.peers.specs.declared.socket_stage.SocketRequest.{SocketRequest}
use Rattle.peers.specs.declared.socket_stage.SocketRequest.TheVariants as request
use Rattle.peers.specs.declared.frame_socket.Incoming.{Incoming}
use Rattle.peers.specs.declared.frame_socket.Incoming.TheVariants as incoming
use Rattle.peers.specs.declared.socket_stage.Phase.{Phase}
use Rattle.peers.specs.declared.socket_stage.Phase.TheVariants as phase
use Rattle.peers.specs.declared.socket_stage.SocketStage.{SocketStage}
use Rattle.peers.specs.declared.socket_stage.SocketStage.TheVariants as stage

-- a client that polls is to say first that it probes
abbrev pub first_stage : SocketRequest → SocketStage
first_stage request.Open = stage.Opens
first_stage (request.Probe c) = stage.Reads c phase.Knocks false

abbrev pub reads : SocketStage → Bool
reads (stage.Reads c p idle) = true
reads _ = false

-- ---- what comes next

-- a read that finds nothing yet, a ping, a pong or a part of a message brings nothing; the first is nothing at all
abbrev pub rests : Incoming → Option Bool
rests incoming.Nothing = Some true
rests incoming.Control = Some false
rests _ = None

-- the message is just this text
abbrev pub says : List ℕ → Incoming → Bool
says word (incoming.Frame (frame.Text text)) = bytes_eq text word
says word _ = false

abbrev pub ticks : ℕ → Phase → Bool → SocketStage × Event
ticks c p idle = (stage.Ticking c p idle, event.Tick c)

-- up to 64 entries are taken
abbrev pub takes : ℕ → Bool → SocketStage × Event
takes c idle = (stage.Taking c idle, event.FrameTake c 64)

abbrev pub with_event : SocketStage × Event → SocketStage × Option Event
with_event step = (step.0, Some step.1)

-- the first message is `2probe`, or the peer ends
abbrev pub knocks : ℕ → Incoming → SocketStage × Option Event
knocks c came = elim (rests came) [
  | Some idle ↦ with_event (ticks c phase.Knocks idle)
  | None ↦ cond (says (codes "2probe") came) (stage.Probing c, Some (event.Probe c)) (stage.Over, None)
]

-- the next message is `5`; any other, the end or a failed read is a lost probe
abbrev pub probes : ℕ → Incoming → SocketStage × Event
probes c came = elim (rests came) [
  | Some idle ↦ ticks c phase.Probes idle
  | None ↦ cond (says (codes "5") came) (stage.Upgrading c, event.Upgraded c) (stage.Losing c, event.ProbeLost c)
]

-- a message is handed in; where none came, what waits is taken; where none will come, the peer has failed
abbrev pub speaks : ℕ → Incoming → SocketStage × Result Event PeerFault
speaks c incoming.Nothing = (stage.Taking c true, Ok (event.FrameTake c 64))
speaks c incoming.Control = (stage.Taking c false, Ok (event.FrameTake c 64))
speaks c (incoming.Frame f) = (stage.Framed c, Ok (event.Frame c f))
speaks c (incoming.Gone why) = (stage.Over, Err why)

-- what follows, where it is no fault
abbrev pub without_fault : SocketStage × Option Event → SocketStage × Result (Option Event) PeerFault
without_fault step = (step.0, Ok step.1)

abbrev pub with_fault : SocketStage × Result Event PeerFault → SocketStage × Result (Option Event) PeerFault
with_fault (s, Ok e) = (s, Ok (Some e))
with_fault (s, Err why) = (s, Err why)

abbrev pub after_read : ℕ → Phase → Incoming → SocketStage × Result (Option Event) PeerFault
after_read c phase.Knocks came = without_fault (knocks c came)
after_read c phase.Probes came = without_fault (with_event (probes c came))
after_read c phase.Speaks came = with_fault (speaks c came)

-- the next event, if there is one, or why the peer has failed, and the stage from then on
abbrev pub next_of : SocketStage → Incoming → SocketStage × Result (Option Event) PeerFault
next_of stage.Opens came = (stage.Opening, Ok (Some (event.Opened true)))
next_of (stage.Reads c p idle) came = after_read c p came
next_of (stage.Takes c) came = without_fault (with_event (takes c false))
next_of (stage.Ticks c idle) came = without_fault (with_event (ticks c phase.Speaks idle))
next_of (stage.Loses c) came = (stage.Losing c, Ok (Some (event.ProbeLost c)))
next_of other came = (other, Ok None)

-- so it goes on by what was read
abbrev pub MayFollow : (old new : SocketStage) → Result (Option Event) PeerFault → Type 0
MayFollow old new given = (came : Incoming) × ((new, given) ≡ next_of old came)

-- ---- what a driver asks

-- the bytes of the message by which an event was brought, if it was brought by one
abbrev pub message_length : Event → Option ℕ
message_length (event.Frame c (frame.Text text)) = Some (length text)
message_length (event.Frame c (frame.Bytes bytes)) = Some (length bytes)
message_length (event.Probe c) = Some 6
message_length (event.Upgraded c) = Some 1
message_length _ = None

-- the last round brought nothing
abbrev pub is_idle : SocketStage → Bool
is_idle (stage.Reads c p idle) = idle
is_idle _ = false

-- what waits is being taken, after a read that brought nothing at all
abbrev pub has_read_nothing : SocketStage → Bool
has_read_nothing (stage.Taking c idle) = idle
has_read_nothing _ = false

-- it is to be asked what is due to a client that speaks
abbrev pub asks_due : SocketStage → Bool
asks_due (stage.Ticks c idle) = true
asks_due _ = false

-- a round that is to begin by a read of a client that speaks begins by a take
abbrev pub without_read : SocketStage → SocketStage
without_read (stage.Reads c phase.Speaks idle) = stage.Takes c
without_read other = other

-- what came behind a message is read before that is answered
abbrev pub ahead : SocketStage → SocketStage
ahead (stage.Framed c) = stage.Reads c phase.Speaks false
ahead other = other

-- what is left of a round of a client that speaks is passed over, and the next one is to begin
abbrev pub without_rest : SocketStage → SocketStage
without_rest (stage.Takes c) = stage.Reads c phase.Speaks false
without_rest (stage.Ticks c idle) = stage.Reads c phase.Speaks idle
without_rest other = other
