-- The text of a payload (Engine.IO protocol 4, "Payload encoding").
use Rattle.std.specs.Prelude.{◌≡◌, ◌≢◌, ◌<◌, ◌++◌, ◌==◌, ◌⊎◌, ℕ, List, [], ◌∷◌, length, All, Any, Contains}
use Rattle.std.specs.List.{AllZip, join_with_byte, slice_split}
use Rattle.eio_wire.specs.declared.packet.Packet.{Packet}
use Rattle.eio_wire.specs.declared.packet.Packet.TheVariants.{Open, Close, Ping, Pong, Message, Binary, Upgrade, Noop}
use Rattle.eio_wire.specs.declared.error.WireError.{WireError}
use Rattle.eio_wire.specs.declared.error.WireError.TheVariants.{Empty, Separator}
use Rattle.eio_wire.specs.Packet.{Eio, IsNoPacket, fault_of}

-- the separator U+001E (30) stands nowhere in the text
abbrev pub IsWhole : List ℕ → Type 0
IsWhole text = All (λ byte. byte ≢ 30) text

-- the packets have this payload: it is their texts, one or more, none with a separator in it,
-- joined by the separator
unfoldable pub Payload : List Packet → List ℕ → Type 0
Payload packets text = (0 < length packets)
    × (texts : List (List ℕ))
    × AllZip Eio packets texts
    × All IsWhole texts
    × (text ≡ join_with_byte 30 texts)

-- what stands before, between and after the separators of a text
abbrev pub pieces : List ℕ → List (List ℕ)
pieces text = slice_split (λ byte. byte == 30) text

-- some packet has this text
abbrev pub IsPacket : List ℕ → Type 0
IsPacket text = (packet : Packet) × Eio packet text

-- this error is the fault of the first piece from the left that no packet has as its text
unfoldable pub HasFault : List ℕ → WireError → Type 0
HasFault text error = (front : List (List ℕ)) × (piece : List ℕ) × (back : List (List ℕ))
    × (pieces text ≡ front ++ piece ∷ back)
    × All IsPacket front
    × IsNoPacket piece
    × (error ≡ fault_of piece)

-- the packet's text holds a separator
abbrev pub HasSeparator : Packet → Type 0
HasSeparator packet = (text : List ℕ) × Eio packet text × Contains text 30

-- why these packets have no payload: there is none, or a separator stands in the text of one
abbrev pub IsRefused : List Packet → WireError → Type 0
IsRefused packets error = ((packets ≡ []) × (error ≡ Empty))
    ⊎ (Any HasSeparator packets × (error ≡ Separator))

-- no separator stands in the packet's data; in base64 none ever does
abbrev pub HasWholeData : Packet → Type 0
HasWholeData (Open rest) = IsWhole rest
HasWholeData (Close rest) = IsWhole rest
HasWholeData (Ping rest) = IsWhole rest
HasWholeData (Pong rest) = IsWhole rest
HasWholeData (Message rest) = IsWhole rest
HasWholeData (Binary bytes) = Unit {0}
HasWholeData (Upgrade rest) = IsWhole rest
HasWholeData (Noop rest) = IsWhole rest
