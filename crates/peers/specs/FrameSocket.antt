-- A WebSocket of the server's side (RFC 6455): what it is, and what it sends.
use Rattle.std.specs.Prelude.{◌≡◌, ◌⊎◌, ℕ, false, List, [], Option, None, Some, Result, Ok, Err}
use Rattle.std.specs.Io.KnownBytes.{Appends}
use Rattle.events.specs.declared.event.WsFrame.{WsFrame}
use Rattle.events.specs.declared.peer.PeerFault.{PeerFault}
use Rattle.events.specs.declared.peer.PeerFault.TheVariants as fault
use Rattle.peers.specs.Sent.{bytes_of}
use Rattle.websocket.specs.Connection.{Connection, whole_header}
use Rattle.websocket.specs.Frame.{encode_frame}
use Rattle.websocket.specs.declared.protocol.config.Role.TheVariants as role
use Rattle.websocket.specs.declared.protocol.config.WebSocketConfig.{WebSocketConfig}
use Rattle.websocket.specs.declared.protocol.frame.coding.OpCode.{OpCode}
use Rattle.websocket.specs.declared.protocol.state.WebSocketState.TheVariants as state

-- its stream, how far the protocol has come, and what was read of frames that are still to be brought
pub record Socket (S : Type 0) : Type 0 where
  pub stream : S
  pub conn : Connection
  pub input : List ℕ

-- a message and a frame have at most so many bytes, and a client's frames are masked
abbrev pub limits_of : (most : ℕ) → WebSocketConfig
limits_of most = record { max_message_size = Some most; max_frame_size = Some most; accept_unmasked_frames = false }

-- nothing was read or sent yet
abbrev pub first_conn : Connection
first_conn = record { role = role.Server; state = state.Active; config = limits_of 1048576; fragments = None }

module _ {S : Type 0} where
  -- one that has done nothing yet, with these bytes to read before its stream's
  abbrev pub new_socket : S → (rest : List ℕ) → Socket S
  new_socket stream rest = record { stream = stream; conn = first_conn; input = rest }

module _ {S : Type 0} (contents : S → Option (List ℕ)) where
  -- just this went out, behind what had gone before, and nothing else has changed
  pub record Sent (bytes : List ℕ) (old new : Socket S) : Type 0 where
    pub conn : new.conn ≡ old.conn
    pub input : new.input ≡ old.input
    pub out : Appends (contents old.stream) (contents new.stream) bytes

  -- one whole frame without a mask went out; where memory was refused, nothing has changed
  abbrev pub SendsFrame : OpCode → (payload : List ℕ) → Socket S → Result (Unit {0}) PeerFault → Socket S → Type 0
  SendsFrame opcode payload old (Ok _) new = Sent (encode_frame (whole_header opcode None) payload) old new
  SendsFrame opcode payload old (Err why) new = ((why ≡ fault.Memory) × (new ≡ old)) ⊎ (why ≡ fault.Device)

  -- just these frames went out, in their order
  abbrev pub SendsAll : List WsFrame → Socket S → Result (Unit {0}) PeerFault → Socket S → Type 0
  SendsAll frames old (Ok _) new = Sent (bytes_of frames) old new
  SendsAll frames old (Err why) new = (why ≡ fault.Memory) ⊎ (why ≡ fault.Device)

  -- frames were sent; where there are none, nothing was done
  pub record Sends (frames : List WsFrame) (old : Socket S) (result : Result (Unit {0}) PeerFault)
      (new : Socket S) : Type 0 where
    pub all : SendsAll frames old result new
    pub none : frames ≡ [] → (result ≡ Ok tt) × (new ≡ old)
