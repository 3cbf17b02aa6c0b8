-- A WebSocket that was accepted.
use Rattle.std.specs.Prelude.{◌≡◌, ℕ, List, Option, None, Some, ⊤}
use Rattle.http_edge.specs.declared.replay.Replay.{Replay}
use Rattle.peers.specs.FrameSocket.{Socket, new_socket}
use Rattle.tungstenite.specs.Heads.{Heard}
use Rattle.tungstenite.specs.Socket.{Socket as Greeted}

-- some head was taken, and the socket has done nothing since; it has just these bytes to read before its stream's
pub record BeginsWith {S : Type 0} (rest : List ℕ) (socket : Socket S) : Type 0 where
  pub head : Heard
  pub begins : socket ≡ new_socket socket.stream rest

-- nothing was read of a stream yet, and these bytes stand before it
pub record Replays {S : Type 0} (head : List ℕ) (stream : S) (replay : Replay S) : Type 0 where
  pub bytes : replay.bytes.items ≡ head
  pub start : replay.start ≡ 0
  pub behind : replay.stream ≡ stream

-- of what was greeted comes one that is new, over the same stream, with just these bytes to read before it; of none none
abbrev pub Follows : {S : Type 0} → (rest : List ℕ) → Option (Greeted S) → Option (Socket S) → Type 0
Follows rest None None = ⊤
Follows rest None (Some socket) = ⊥
Follows rest (Some first) None = ⊥
Follows rest (Some first) (Some socket) = socket ≡ new_socket first.stream rest

-- the request was answered over the stream with its head before it, and what came of it follows
pub record Accepts {S : Type 0} (gives : Replay S → Option (Greeted (Replay S)) → Type 0)
    (head : List ℕ) (stream : S) (rest : List ℕ) (came : Option (Socket (Replay S))) : Type 0 where
  pub replay : Replay S
  pub replays : Replays head stream replay
  pub gave : Option (Greeted (Replay S))
  pub gives_it : gives replay gave
  pub follows : Follows rest gave came
