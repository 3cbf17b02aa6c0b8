-- The JSON payload that each packet type allows (Socket.IO protocol 5, "Packet types" and "Packet
-- encoding").
use Rattle.std.specs.Prelude.{◌≡◌, ◌≢◌, ℕ, List, [], ◌∷◌, Option, Some, None, Bool, false, ◌&&◌, ◌||◌, is_some, is_none, IsTrue, IsSomeAnd, IfSome, codes, Contains, option_and_then}
use Rattle.serde_json.specs.Data.{Data}
use Rattle.serde_json.specs.Read.{read}
use Rattle.serde_json.specs.Find.{at, as_str, as_number, as_array, as_object}
use Rattle.sio_wire.specs.declared.header.Kind.{Kind}
use Rattle.sio_wire.specs.declared.header.Kind.TheVariants.{Connect, Disconnect, Event, Ack, ConnectError, BinaryEvent, BinaryAck}
use Rattle.sio_wire.specs.declared.header.Header.{Header}
use Rattle.sio_wire.specs.Kinds.{is_binary, is_event}
use Rattle.sio_wire.specs.Placeholders.{Placed}

-- the tree of a payload: none for the empty text, else what `serde_json` reads, where no U+001E is
-- in the text
abbrev pub IsTree : List ℕ → Option Data → Type 0
IsTree text None = text ≡ []
IsTree text (Some v) = (¬ Contains text 30) × (text ≢ []) × (read text ≡ Some v)

-- the text is no JSON payload
abbrev pub IsNoTree : List ℕ → Type 0
IsNoTree text = (tree : Option Data) → IsTree text tree → ⊥

-- an array whose first item is a text or a number
abbrev pub begins_event : Data → Bool
begins_event v =
    is_some (option_and_then as_str (at 0 v)) || is_some (option_and_then as_number (at 0 v))

-- the payload and the acknowledgement id that each type allows
abbrev pub has_shape : Kind → Option ℕ → Option Data → Bool
has_shape Connect id None = is_none id
has_shape Connect id (Some v) = is_none id && is_some (as_object v)
has_shape Disconnect id None = is_none id
has_shape Disconnect id (Some v) = false
has_shape Event id None = false
has_shape Event id (Some v) = begins_event v
has_shape Ack id None = false
has_shape Ack id (Some v) = is_some id && is_some (as_array v)
has_shape ConnectError id None = false
has_shape ConnectError id (Some v) = is_none id && (is_some (as_str v) || is_some (as_object v))
has_shape BinaryEvent id None = false
has_shape BinaryEvent id (Some v) = begins_event v
has_shape BinaryAck id None = false
has_shape BinaryAck id (Some v) = is_some id && is_some (as_array v)

-- the names that the protocol keeps for itself
abbrev pub reserved_names : List (List ℕ)
reserved_names =
    codes "connect" ∷ codes "connect_error" ∷ codes "disconnect" ∷ codes "disconnecting"
    ∷ codes "newListener" ∷ codes "removeListener" ∷ []

-- an array whose first item is one of these names
abbrev pub IsReserved : Data → Type 0
IsReserved v = IsSomeAnd (option_and_then as_str (at 0 v)) (λ name. Contains reserved_names name)

-- an event with one of these names
abbrev pub HasReservedName : Kind → Option Data → Type 0
HasReservedName kind tree = IsTrue (is_event kind) × IsSomeAnd tree IsReserved

-- in a binary packet each placeholder has a number below the count
abbrev pub IsPlaced : Kind → ℕ → Option Data → Type 0
IsPlaced kind count tree = IsTrue (is_binary kind) → IfSome tree (λ v. Placed v count)

-- the payload is one that the header's type, id and count allow
abbrev pub HasPayload : Header → Type 0
HasPayload h = (tree : Option Data) × IsTree h.payload tree × IsTrue (has_shape h.kind h.id tree)
    × (¬ HasReservedName h.kind tree) × IsPlaced h.kind h.count tree
