-- Who serves a connection, what is seen of it, and what befalls its stream.
use Rattle.std.specs.Prelude.{◌≡◌, ◌==◌, ℕ, Bool, true, false, not, List, [], Option, None, Some, length}
use Rattle.std.specs.Box.{box_value}
use Rattle.std.specs.declared.boxed.Box.{Box}
use Rattle.std.specs.declared.alloc.Global.{Global}
use Rattle.mio.specs.declared.net.stream.TcpStream.{TcpStream}
use Rattle.http_edge.specs.declared.routes.Target.{Target}
use Rattle.loop_rules.specs.Heard.{left_unbrought}
use Rattle.loop_rules.specs.Link.{seen_gone}
use Rattle.loop_rules.specs.declared.link.Seen.{Seen}
use Rattle.peers.specs.FrameSocket.{Socket}
use Rattle.peers.specs.Polling as polling
use Rattle.peers.specs.Responses.{poll_request, socket_request}
use Rattle.peers.specs.Rounds as rounds
use Rattle.peers.specs.declared.poll_stage.PollRequest.{PollRequest}
use Rattle.peers.specs.declared.poll_stage.PollStage.TheVariants as stage
use Rattle.peers.specs.declared.socket_stage.SocketRequest.{SocketRequest}
use Rattle.tcp_streams.specs.Outputs.{is_cut, reads_by, waiting}
use Rattle.tcp_streams.specs.declared.buffered.Buffered.{Buffered}
use Rattle.tcp_loops.specs.declared.stream.Change.{Change}
use Rattle.tcp_loops.specs.declared.stream.Change.TheVariants as change
use Rattle.tcp_loops.specs.declared.service.Service.{Service}
use Rattle.tcp_loops.specs.declared.service.Service.TheVariants as service

-- what is seen of a stream over which no peer brings events
abbrev pub seen_stream : Buffered TcpStream → Seen
seen_stream b = record seen_gone { unsent = length (waiting b); unbrought = b.unbrought; drained = b.drained }

-- what this makes of a stream
abbrev pub ChangedBy : Change → (old new : Buffered TcpStream) → Type 0
ChangedBy (change.ReadUpTo most) old new = new ≡ record old { most = most }
ChangedBy (change.Brought message is_post) old new =
    new ≡ record old { unbrought = left_unbrought old.unbrought message is_post 8192 }
ChangedBy (change.Readable ended) old new = (waiting new ≡ waiting old) × (new.drained ≡ false)
ChangedBy change.Cut old new = (waiting new ≡ []) × (is_cut new ≡ true)

-- it reads as before, and has the same to send
pub record SameBytes (old new : Buffered TcpStream) : Type 0 where
  pub waits : waiting new ≡ waiting old
  pub reads : reads_by new ≡ reads_by old

-- a WebSocket has come as far as before, whatever became of its stream
pub record OverStream {S : Type 0} (old new : Socket S) : Type 0 where
  pub conn : new.conn ≡ old.conn
  pub input : new.input ≡ old.input

module _ {R : Type 0} where
  abbrev pub is_request : Service R → Bool
  is_request (service.Polling p) = true
  is_request _ = false

  -- a peer serves it
  abbrev pub is_served : Service R → Bool
  is_served (service.Polling p) = true
  is_served (service.Speaking p) = true
  is_served _ = false

  -- of its stream, of its peer, and of a file of which a rest is left
  abbrev pub seen_of : Service R → Seen
  seen_of (service.Gathering s g) = seen_stream (box_value s)
  seen_of (service.Polling p) =
      record (seen_stream (box_value (box_value p).wire.stream)) { idle = polling.is_idle (box_value p).stage }
  seen_of (service.Speaking p) = record (seen_stream (box_value (box_value p).socket.stream.stream)) {
    idle = rounds.is_idle (box_value p).stage;
    asks_due = rounds.asks_due (box_value p).stage;
    has_read_nothing = rounds.has_read_nothing (box_value p).stage;
  }
  seen_of (service.Answered s left) = record (seen_stream (box_value s)) { has_more = not (length left.now == 0) }
  seen_of service.Gone = seen_gone

  -- its stream has become so, and who serves it is as far as before
  abbrev pub Turns : (Buffered TcpStream → Buffered TcpStream → Type 0) → (old new : Service R) → Type 0
  Turns P (service.Gathering s g) (service.Gathering s' g') = P (box_value s) (box_value s') × (g' ≡ g)
  Turns P (service.Polling p) (service.Polling p') =
      P (box_value (box_value p).wire.stream) (box_value (box_value p').wire.stream)
      × ((box_value p').stage ≡ (box_value p).stage) × ((box_value p').most ≡ (box_value p).most)
  Turns P (service.Speaking p) (service.Speaking p') =
      P (box_value (box_value p).socket.stream.stream) (box_value (box_value p').socket.stream.stream)
      × OverStream (box_value p).socket (box_value p').socket
      × ((box_value p').stage ≡ (box_value p).stage) × ((box_value p').moments ≡ (box_value p).moments)
  Turns P (service.Answered s left) (service.Answered s' left') = P (box_value s) (box_value s') × (left' ≡ left)
  Turns P service.Gone service.Gone = Unit {0}
  Turns P _ _ = ⊥

  -- the rest of a WebSocket's round was passed over
  abbrev pub skipped : Service R → Service R
  skipped (service.Speaking p) =
      service.Speaking (record p { value = record (box_value p) { stage = rounds.without_rest (box_value p).stage } })
  skipped other = other

  -- a WebSocket goes on before its message is answered
  abbrev pub ahead : Service R → Service R
  ahead (service.Speaking p) = service.Speaking (record p { value = record (box_value p) { stage = rounds.ahead (box_value p).stage } })
  ahead other = other

  -- a GET that waits asks no more
  abbrev pub given_up : Service R → Service R
  given_up (service.Polling p) =
      service.Polling (record p { value = record (box_value p) { stage = polling.given_up (box_value p).stage } })
  given_up other = other

  -- its stream, where nobody has served it
  abbrev pub stream_to_take : Service R → Option (Box (Buffered TcpStream) Global)
  stream_to_take (service.Gathering s g) = Some s
  stream_to_take _ = None

  -- a peer serves it that has asked nothing yet, as its target wants
  abbrev pub IsServedBy : Target → Service R → Type 0
  IsServedBy t (service.Polling p) =
      (body : List ℕ) × (r : PollRequest) × (poll_request t body ≡ Some r) × ((box_value p).stage ≡ stage.First r)
  IsServedBy t (service.Speaking p) =
      (r : SocketRequest) × (socket_request t ≡ Some r) × ((box_value p).stage ≡ rounds.first_stage r)
  IsServedBy t _ = ⊥

  abbrev pub IsServedIf : Bool → Target → Service R → Type 0
  IsServedIf true t s = IsServedBy t s
  IsServedIf false t s = is_served s ≡ false
