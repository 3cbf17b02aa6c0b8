-- The text of a packet (Engine.IO protocol 4, "Packet encoding").
use Rattle.std.specs.Prelude.{◌≡◌, ℕ, List, [], ◌∷◌, ◌++◌, if◌then◌else◌, ◌==◌, codes}
use Rattle.terms.specs.Bytes.{IsBytes}
use Rattle.eio_wire.specs.Base64.{base64_text}
use Rattle.eio_wire.specs.declared.packet.Packet.{Packet}
use Rattle.eio_wire.specs.declared.packet.Packet.TheVariants.{Open, Close, Ping, Pong, Message, Binary, Upgrade, Noop}
use Rattle.eio_wire.specs.declared.error.WireError.{WireError}
use Rattle.eio_wire.specs.declared.error.WireError.TheVariants.{Memory, Empty, BadType, BadBase64, Separator}

-- the packet has this text: its type's digit and its data, or `b` and the base64 text of its bytes
abbrev pub Eio : Packet → List ℕ → Type 0
Eio (Open rest) text = text ≡ codes "0" ++ rest
Eio (Close rest) text = text ≡ codes "1" ++ rest
Eio (Ping rest) text = text ≡ codes "2" ++ rest
Eio (Pong rest) text = text ≡ codes "3" ++ rest
Eio (Message rest) text = text ≡ codes "4" ++ rest
Eio (Binary bytes) text = IsBytes bytes × (text ≡ codes "b" ++ base64_text bytes)
Eio (Upgrade rest) text = text ≡ codes "5" ++ rest
Eio (Noop rest) text = text ≡ codes "6" ++ rest

-- no packet has this text
abbrev pub IsNoPacket : List ℕ → Type 0
IsNoPacket text = (packet : Packet) → ¬ Eio packet text

-- what is wrong with a text that no packet has: it is empty, or bad base64 follows a `b` (98), or
-- its type is none
abbrev pub fault_of : List ℕ → WireError
fault_of [] = Empty
fault_of (kind ∷ rest) = if kind == 98 then BadBase64 else BadType

-- the errors that say what is wrong with a text
abbrev pub IsTextFault : WireError → Type 0
IsTextFault Empty = Unit {0}
IsTextFault BadType = Unit {0}
IsTextFault BadBase64 = Unit {0}
IsTextFault Memory = ⊥
IsTextFault Separator = ⊥
