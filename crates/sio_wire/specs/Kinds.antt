-- Packet types (Socket.IO protocol 5, "Packet types").
use Rattle.std.specs.Prelude.{ℕ, Bool, true, false}
use Rattle.sio_wire.specs.declared.header.Kind.{Kind}
use Rattle.sio_wire.specs.declared.header.Kind.TheVariants.{Connect, Disconnect, Event, Ack, ConnectError, BinaryEvent, BinaryAck}

-- the digit, `0` to `6`, that begins a packet of the type
abbrev pub digit_of : Kind → ℕ
digit_of Connect = 48
digit_of Disconnect = 49
digit_of Event = 50
digit_of Ack = 51
digit_of ConnectError = 52
digit_of BinaryEvent = 53
digit_of BinaryAck = 54

-- attachments may follow
abbrev pub is_binary : Kind → Bool
is_binary Connect = false
is_binary Disconnect = false
is_binary Event = false
is_binary Ack = false
is_binary ConnectError = false
is_binary BinaryEvent = true
is_binary BinaryAck = true

-- the payload's first item is an event's name
abbrev pub is_event : Kind → Bool
is_event Connect = false
is_event Disconnect = false
is_event Event = true
is_event Ack = false
is_event ConnectError = false
is_event BinaryEvent = true
is_event BinaryAck = false
