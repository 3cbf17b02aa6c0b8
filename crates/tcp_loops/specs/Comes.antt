-- What comes of what a connection does.
use Rattle.std.specs.Prelude.{◌≡◌, ◌++◌, ℕ, Bool, List, Option, None, Result, Ok, Err, cond}
use Rattle.std.specs.Box.{box_value}
use Rattle.std.specs.declared.boxed.Box.{Box}
use Rattle.std.specs.declared.alloc.Global.{Global}
use Rattle.mio.specs.declared.net.stream.TcpStream.{TcpStream}
use Rattle.events.specs.Answer.{Answer}
use Rattle.events.specs.declared.event.Event.{Event}
use Rattle.events.specs.declared.event.Event.TheVariants as event
use Rattle.events.specs.declared.peer.PeerFault.{PeerFault}
use Rattle.http_edge.specs.Reading.{IsRequestIn}
use Rattle.http_edge.specs.SoFar.{fed}
use Rattle.http_edge.specs.declared.error.EdgeError.{EdgeError}
use Rattle.http_edge.specs.declared.replay.Replay.{Replay}
use Rattle.loop_rules.specs.Heard.{found_by, has_taken_all}
use Rattle.loop_rules.specs.Link.{is_dry}
use Rattle.loop_rules.specs.declared.link.Do.{Do}
use Rattle.loop_rules.specs.declared.link.Do.TheVariants as what
use Rattle.loop_rules.specs.declared.link.Link.{Link}
use Rattle.loop_rules.specs.declared.link.Seen.{Seen}
use Rattle.loop_rules.specs.declared.looks.Found.{Found}
use Rattle.peers.specs.Polled.{event_of}
use Rattle.peers.specs.Polling as polling
use Rattle.peers.specs.Rounds as rounds
use Rattle.peers.specs.Spoken as spoken
use Rattle.peers.specs.declared.poll_stage.PollStage.{PollStage}
use Rattle.tcp_streams.specs.Outputs.{held}
use Rattle.tcp_streams.specs.declared.buffered.Buffered.{Buffered}
use Rattle.tcp_loops.specs.Services.{skipped}
use Rattle.tcp_loops.specs.declared.stream.Came.{Came}
use Rattle.tcp_loops.specs.declared.stream.Came.TheVariants as came
use Rattle.tcp_loops.specs.declared.service.Service.{Service}
use Rattle.tcp_loops.specs.declared.service.Service.TheVariants as service

-- the stint goes on or is over, and nobody is told of anything
abbrev pub IsNothing : Came → Type 0
IsNothing (came.Nothing d) = Unit {0}
IsNothing _ = ⊥

-- what is read for a request brings one, or is refused, or lacks the rest
abbrev pub IsOfRequest : Came → Type 0
IsOfRequest (came.Event e moment) = ⊥
IsOfRequest _ = Unit {0}

-- what a peer brings is no request
abbrev pub IsOfPeer : Came → Type 0
IsOfPeer (came.Event e moment) = Unit {0}
IsOfPeer other = IsNothing other

-- what comes of what a link says
abbrev pub ComesOf : Do → (now : ℕ) → Came → Type 0
ComesOf what.Gather now c = IsOfRequest c
ComesOf (what.Bring drains reads) now c = IsOfPeer c
ComesOf what.Pass now c = IsNothing c
ComesOf (what.Tell loss) now c = c ≡ came.Event (event.TransportLost loss.client) now
ComesOf what.Drain now c = IsNothing c
ComesOf other now c = c ≡ came.Nothing other

-- with the bytes that came now the request is whole, or they are a part of one as those before
abbrev pub Reads : (old : Result (List ℕ) EdgeError) → Result Came EdgeError → (new : Result (List ℕ) EdgeError) → Type 0
Reads old (Ok (came.Request request)) new =
    (bytes : List ℕ) → old ≡ Ok bytes → (read : List ℕ) × IsRequestIn (box_value request) (bytes ++ read)
Reads old (Ok (came.Nothing (what.Rest pause))) new = (read : List ℕ) × (new ≡ fed old read)
Reads old (Ok _) new = ⊥
Reads old (Err e) new = Unit {0}

-- the next event of a request is its table's, and a request doesn't fail by itself
abbrev pub PollsOn : (most : ℕ) → (old : PollStage) → Result (Option (Event × ℕ)) PeerFault → (new : PollStage) → Type 0
PollsOn most old (Ok given) new = (new, event_of given) ≡ polling.next_of most old
PollsOn most old (Err why) new = ⊥

module _ {R : Type 0} where
  -- the next event is the table's of the peer that serves; that of a WebSocket may read, or is not to
  abbrev pub Gives : (reads : Bool) → (old : Service R) → Result (Option (Event × ℕ)) PeerFault → (new : Service R) → Type 0
  Gives reads (service.Polling p) result (service.Polling p') =
      PollsOn (box_value p).most (box_value p).stage result (box_value p').stage
  Gives reads (service.Speaking p) result (service.Speaking p') =
      rounds.MayFollow (cond reads (box_value p).stage (rounds.without_read (box_value p).stage))
      (box_value p').stage (spoken.untimed result)
  Gives reads old result new = (result ≡ Ok None) × (new ≡ old)

  -- its peer has come as far as the table says, and over a WebSocket waits what it is to be sent, behind what waited
  abbrev pub Hears : Answer → (old : Service R) → Result (Unit {0}) PeerFault → (new : Service R) → Type 0
  Hears got (service.Polling p) result (service.Polling p') = (box_value p').stage ≡ polling.after (box_value p).stage got
  Hears got (service.Speaking p) result (service.Speaking p') =
      spoken.Hears (λ (r : Replay (Box (Buffered TcpStream) Global)). held (box_value r.stream)) (box_value p) got result (box_value p')
  Hears got old result new = (result ≡ Ok tt) × (new ≡ old)

module _ {R : Type 0} where
  -- its peer has come as far as the table says, and then the rest of its round was passed over, or not
  abbrev pub HearsOn : (passes : Bool) → Answer → (old new : Service R) → Type 0
  HearsOn passes got old new = (heard : Service R) × Hears got old (Ok tt) heard × (new ≡ cond passes (skipped heard) heard)

-- what an answer says of a look: whether all that came was brought counts as it was before the peer heard it
abbrev pub found_of : (rests : Bool) → Link → (before after : Seen) → Answer → Found
found_of rests l before after got = found_by after.idle (has_taken_all rests got) (is_dry before l) got
