-- What the calls of a peer do that serves one WebSocket.
use Rattle.std.specs.Prelude.{◌≡◌, ℕ, Bool, true, false, List, Option, Result, Ok, Err}
use Rattle.events.specs.declared.event.Event.{Event}
use Rattle.events.specs.Answer.{Answer}
use Rattle.events.specs.declared.peer.PeerFault.{PeerFault}
use Rattle.peers.specs.declared.frame_socket.Incoming.{Incoming}
use Rattle.peers.specs.declared.frame_socket.Incoming.TheVariants as incoming
use Rattle.peers.specs.declared.socket_stage.SocketStage.{SocketStage}
use Rattle.peers.specs.FrameSocket.{Sends, Socket}
use Rattle.peers.specs.Incoming.{Brings}
use Rattle.peers.specs.Moments.{IsTimed}
use Rattle.peers.specs.Polled.{event_of}
use Rattle.peers.specs.Rounds.{reads, next_of}
use Rattle.peers.specs.Heard.{after, to_send, unsent}

-- how far the WebSocket has come, its socket, and its moments
pub record Spoken (S M : Type 0) : Type 0 where
  pub stage : SocketStage
  pub socket : Socket S
  pub moments : M

-- a result, without the moment of its event
abbrev pub untimed : Result (Option (Event × ℕ)) PeerFault → Result (Option Event) PeerFault
untimed (Ok given) = Ok (event_of given)
untimed (Err why) = Err why

module _ {S : Type 0} (remaining contents : S → Option (List ℕ)) where
  -- a stage that reads has one read; any other reads nothing
  abbrev pub Listens : Bool → Socket S → Incoming → Socket S → Type 0
  Listens true old came new = Brings remaining contents old came new
  Listens false old came new = (came ≡ incoming.Nothing) × (new ≡ old)

-- an event has the moment that was given for it; where there is none, also after a fault, no moment is asked for
abbrev pub IsTimedResult : {M : Type 0} → (gives : M → ℕ → M → Type 0) → Result (Option (Event × ℕ)) PeerFault → M → M → Type 0
IsTimedResult gives (Ok given) old new = IsTimed gives given old new
IsTimedResult gives (Err why) old new = new ≡ old

module _ {S M : Type 0} (remaining contents : S → Option (List ℕ)) (gives : M → ℕ → M → Type 0) where
  -- the next event is the table's, for what was read, with the moment that was given for it
  pub record Gives (old : Spoken S M) (result : Result (Option (Event × ℕ)) PeerFault) (new : Spoken S M) : Type 0 where
    pub came : Incoming
    pub listens : Listens remaining contents (reads old.stage) old.socket came new.socket
    pub next : (new.stage, untimed result) ≡ next_of old.stage came
    pub timed : IsTimedResult gives result old.moments new.moments

-- the stage and the result, once what was to be sent was sent or not
abbrev pub heard : SocketStage → Result (Unit {0}) PeerFault → SocketStage × Result (Unit {0}) PeerFault
heard s (Ok _) = (s, Ok tt)
heard s (Err why) = unsent s why

module _ {S M : Type 0} (contents : S → Option (List ℕ)) where
  -- what the table names was sent, and the stage is the table's
  pub record Hears (old : Spoken S M) (got : Answer) (result : Result (Unit {0}) PeerFault) (new : Spoken S M) : Type 0 where
    pub sent : Result (Unit {0}) PeerFault
    pub sends : Sends contents (to_send old.stage got) old.socket sent new.socket
    pub stage : (new.stage, result) ≡ heard (after old.stage got) sent
    pub moments : new.moments ≡ old.moments
