-- What a read of a WebSocket brings.
use Rattle.std.specs.Prelude.{◌≡◌, ◌⊎◌, ◌++◌, ℕ, List, [], length, drop, Option, None, Some, Result, Ok, Err}
use Rattle.std.specs.Io.KnownBytes.{Appends, Consumes, IsAtEnd}
use Rattle.websocket.specs.Connection.{Effect, close_step, failed_connection, read_step}
use Rattle.websocket.specs.Content.{Content, text, binary, ping, pong, close}
use Rattle.websocket.specs.View.{Leaves}
use Rattle.websocket.specs.declared.error.Error.{Error}
use Rattle.websocket.specs.declared.error.Error.TheVariants as error
use Rattle.websocket.specs.declared.protocol.frame.codec.FrameStatus.{FrameStatus}
use Rattle.websocket.specs.declared.protocol.frame.codec.FrameStatus.TheVariants as status
use Rattle.websocket.specs.declared.protocol.frame.coding.CloseCode.TheVariants as code
use Rattle.events.specs.declared.event.WsFrame.{WsFrame}
use Rattle.events.specs.declared.event.WsFrame.TheVariants as frame
use Rattle.events.specs.declared.peer.PeerFault.TheVariants as fault
use Rattle.peers.specs.FrameSocket.{Socket}
use Rattle.peers.specs.declared.frame_socket.Incoming.{Incoming}
use Rattle.peers.specs.declared.frame_socket.Incoming.TheVariants as incoming

-- a copy was made of the message, or there was no memory for it, and then it is lost
abbrev pub IsCopyOf : WsFrame → Incoming → Type 0
IsCopyOf sent came = (came ≡ incoming.Frame sent) ⊎ (came ≡ incoming.Gone fault.Memory)

-- a text and bytes are worked on; a close is the end of the stream
abbrev pub IsReadAs : Content → Incoming → Type 0
IsReadAs (text t) came = IsCopyOf (frame.Text t) came
IsReadAs (binary b) came = IsCopyOf (frame.Bytes b) came
IsReadAs (ping bytes) came = came ≡ incoming.Control
IsReadAs (pong bytes) came = came ≡ incoming.Control
IsReadAs (close why) came = came ≡ incoming.Gone fault.Ended

-- a part of a message brings nothing until the last one has come
abbrev pub IsBrought : Option Content → Incoming → Type 0
IsBrought None came = came ≡ incoming.Control
IsBrought (Some content) came = IsReadAs content came

-- a message of as many bytes as are read, or there was no memory for it
abbrev pub IsTooLong : Incoming → Type 0
IsTooLong came =
    ((bytes : List ℕ) × (length bytes ≡ 1048576) × (came ≡ incoming.Frame (frame.Bytes bytes)))
    ⊎ (came ≡ incoming.Gone fault.Memory)

-- after a failure, and after the end, nothing more is read
abbrev pub of_error : Error → Incoming
of_error error.OutOfMemory = incoming.Gone fault.Memory
of_error error.ConnectionClosed = incoming.Gone fault.Ended
of_error error.AlreadyClosed = incoming.Gone fault.Ended
of_error _ = incoming.Gone fault.Device

module _ {S : Type 0} (contents : S → Option (List ℕ)) where
  -- so the protocol goes on: what it replies went out (sections 5.5.1 to 5.5.3), and this is brought; or the stream has failed
  pub record Replies (step : Result Effect Error) (old : Socket S) (brings : Incoming → Type 0) (came : Incoming) (new : Socket S) : Type 0 where
    pub reply : List ℕ
    pub leaves : Leaves step new.conn [] reply
    pub outcome : (Appends (contents old.stream) (contents new.stream) reply × brings came) ⊎ (came ≡ incoming.Gone fault.Device)

  -- a whole frame is done, of which a message may come
  abbrev pub IsDone : ℕ × Effect → Socket S → Incoming → Socket S → Type 0
  IsDone p old came new = (new.input ≡ drop p.0 old.input) × Replies (Ok p.1) old (IsBrought p.1.message) came new

  -- in place of a message that is too long comes one that is too long for the core, and the WebSocket
  -- is closed (section 7.4.1: 1009), or there was no memory for that
  abbrev pub ClosesAsTooBig : Socket S → Incoming → Socket S → Type 0
  ClosesAsTooBig old came new =
      Replies (close_step old.conn (Some (code.Size, []))) old IsTooLong came new ⊎ (came ≡ incoming.Gone fault.Memory)

  -- what was read is no frame, or one that is refused: so the connection has failed (section 7.1.7)
  abbrev pub IsRefused : Error → Socket S → Incoming → Socket S → Type 0
  IsRefused (error.Capacity why) old came new = ClosesAsTooBig old came new
  IsRefused e old came new = came ≡ of_error e

  -- the frame that was read first is worked on, where it is whole
  abbrev pub Works : Result (FrameStatus (ℕ × Effect)) Error → Socket S → Option Incoming → Socket S → Type 0
  Works (Ok (status.Partial needed)) old came new = (came ≡ None) × (new ≡ old)
  Works (Ok (status.Complete p)) old (Some came) new = IsDone p old came new
  Works (Err e) old (Some came) new = IsRefused e (record old { conn = failed_connection old.conn }) came new
  Works _ old None new = ⊥

  -- or there was no memory for that
  abbrev pub Steps : Socket S → Option Incoming → Socket S → Type 0
  Steps old came new = Works (read_step old.conn old.input) old came new ⊎ (came ≡ Some (incoming.Gone fault.Memory))

module _ {S : Type 0} (remaining : S → Option (List ℕ)) where
  -- these bytes came from the stream, and nothing was done with them yet
  pub record HasRead (got : List ℕ) (old new : Socket S) : Type 0 where
    pub conn : new.conn ≡ old.conn
    pub input : new.input ≡ old.input ++ got
    pub taken : Consumes (remaining old.stream) (remaining new.stream) got

  -- the stream gives no more for now, or has ended or failed, or there was no memory for what it gave
  abbrev pub GivesNoMore : Socket S → Incoming → Socket S → Type 0
  GivesNoMore old came new =
      ((came ≡ incoming.Nothing) × HasRead [] old new)
      ⊎ ((came ≡ incoming.Gone fault.Ended) × IsAtEnd (remaining new.stream))
      ⊎ (came ≡ incoming.Gone fault.Device) ⊎ (came ≡ incoming.Gone fault.Memory)

module _ {S : Type 0} (remaining contents : S → Option (List ℕ)) where
  -- of the bytes that came the first frame, or where none is whole, why no more came
  pub record Brings (old : Socket S) (came : Incoming) (new : Socket S) : Type 0 where
    pub got : List ℕ
    pub between : Socket S
    pub read : HasRead remaining got old between
    pub brought : Steps contents between (Some came) new
        ⊎ (Steps contents between None between × GivesNoMore remaining between came new)
