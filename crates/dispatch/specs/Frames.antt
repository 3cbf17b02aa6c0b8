-- What comes and what goes over a client's WebSocket: a packet is a message of it (Engine.IO protocol 4, "WebSocket").
use Rattle.std.specs.Prelude.{◌≡◌, ◌⊎◌, ℕ, Bool, List, [], ◌∷◌, length, nat_lt, Ok, Err}
use Rattle.std.specs.List.{AllZip}
use Rattle.eio_wire.specs.declared.error.WireError.{WireError}
use Rattle.eio_wire.specs.declared.packet.Packet.{Packet}
use Rattle.eio_wire.specs.declared.packet.Packet.TheVariants.{Binary}
use Rattle.eio_wire.specs.Packet.{Eio, IsNoPacket, fault_of}
use Rattle.connection.specs.declared.clock.Transport.{Transport}
use Rattle.connection.specs.declared.clock.Transport.TheVariants.{Socket}
use Rattle.connection.specs.Line.{PlainLine, Advances}
use Rattle.journal.specs.Journal.{History}
use Rattle.events.specs.declared.fault.CoreFault.{CoreFault}
use Rattle.events.specs.declared.fault.CoreFault.TheVariants.{WrongTransport}
use Rattle.journal.specs.Outboxes.{waiting}
use Rattle.events.specs.declared.event.WsFrame.{WsFrame}
use Rattle.events.specs.declared.event.WsFrame.TheVariants as frame
use Rattle.events.specs.declared.outcome.Outcome.TheVariants as outcome
use Rattle.dispatch.specs.Takes.{IsOn, IsPingDue, IsTaken, handed, carried, Take, Counts, FailsToCount, TakesNone, IsShort, ping_calls}

-- ---- a frame that comes

-- a frame of more bytes isn't read (own)
abbrev pub longest_frame : ℕ
longest_frame = 1000000

abbrev pub is_too_long : WsFrame → Bool
is_too_long (frame.Text text) = nat_lt longest_frame (length text)
is_too_long (frame.Bytes bytes) = nat_lt longest_frame (length bytes)

-- a text is one packet's, and bytes are a binary message
abbrev pub IsFrameOf : Packet → WsFrame → Type 0
IsFrameOf packet (frame.Text text) = Eio packet text
IsFrameOf packet (frame.Bytes bytes) = packet ≡ Binary bytes

-- the frame is a text that no packet has, for this reason
abbrev pub IsNoFrame : WsFrame → WireError → Type 0
IsNoFrame (frame.Text text) fault = IsNoPacket text × (fault ≡ fault_of text)
IsNoFrame (frame.Bytes bytes) fault = ⊥

-- ---- frames that go

-- the frame that a packet is sent as: its bytes where it is binary, and else its text
abbrev pub IsSentAs : Packet → WsFrame → Type 0
IsSentAs (Binary bytes) sent = sent ≡ frame.Bytes bytes
IsSentAs packet sent = (text : List ℕ) × Eio packet text × (sent ≡ frame.Text text)

-- the frames are written, and then the entries are taken
abbrev pub Sends : (c n : ℕ) → ℕ → (ping : Bool) → Take → (h g : History) → (old new : PlainLine) → Type 0
Sends c n now ping (Ok (outcome.Frames frames)) h g old new =
    AllZip IsSentAs (carried ping (handed h c n)) frames.list × Counts c n now h g × Advances old (ping_calls ping) new
    × (frames.more ≡ nat_lt n (length (waiting h.base h.limits h.journal c)))
Sends c n now ping (Ok _) h g old new = ⊥
Sends c n now ping (Err e) h g old new = (fault : CoreFault) × FailsToCount c n now h fault × TakesNone fault e h g old new

-- the first so many entries are sent
abbrev pub SendsFirst : (ping : Bool) → (c n : ℕ) → ℕ → Take → (h g : History) → (old new : PlainLine) → Type 0
SendsFirst ping c n now answer h g old new = IsShort answer h g old new ⊎ elim (carried ping (handed h c n)) [
  | [] ↦ (answer ≡ Ok outcome.Nothing) × (g ≡ h) × (new ≡ old)
  | packet ∷ packets ↦ Sends c n now ping answer h g old new
]

-- as many as a take hands out
abbrev pub SendsWaiting : (ping : Bool) → (c most : ℕ) → ℕ → Take → (h g : History) → (old new : PlainLine) → Type 0
SendsWaiting ping c most now answer h g old new = (n : ℕ) × IsTaken h c most n × SendsFirst ping c n now answer h g old new

-- only a client that speaks over a WebSocket has frames to take
abbrev pub SendsOn : Transport → (ping : Bool) → (c most : ℕ) → ℕ → Take → (h g : History) → (old new : PlainLine) → Type 0
SendsOn Socket ping c most now answer h g old new = SendsWaiting ping c most now answer h g old new
SendsOn _ ping c most now answer h g old new = (answer ≡ Err WrongTransport) × (g ≡ h) × (new ≡ old)

abbrev pub SendsFor : (c most : ℕ) → ℕ → Take → (h g : History) → (old new : PlainLine) → Type 0
SendsFor c most now answer h g old new =
    (on : Transport) × (ping : Bool) × IsOn on old × IsPingDue ping old × SendsOn on ping c most now answer h g old new
