-- The fault of a text that spells no header: the first from the left (Socket.IO protocol 5, "Packet
-- encoding").
use Rattle.std.specs.Prelude.{◌≡◌, ◌≢◌, ◌⊎◌, ◌<◌, ◌++◌, ⊤, ℕ, List, ◌∷◌, length, slice_index, Option, Result, Ok, Err, false, IsTrue}
use Rattle.std.specs.List.{list_any, before_first}
use Rattle.std.specs.Str.Parse.{AllDigits}
use Rattle.serde_json.specs.Data.{Data}
use Rattle.sio_wire.specs.declared.header.Kind.{Kind}
use Rattle.sio_wire.specs.declared.header.Header.{Header}
use Rattle.sio_wire.specs.declared.error.SioError.{SioError}
use Rattle.sio_wire.specs.declared.error.SioError.TheVariants.{Memory, BadKind, BadCount, BadId, BadJson, BadShape, Reserved, BadPlaceholder, TooMany}
use Rattle.sio_wire.specs.Kinds.{digit_of, is_binary}
use Rattle.sio_wire.specs.Shape.{IsTree, IsNoTree, has_shape, HasReservedName, IsPlaced, HasPayload}
use Rattle.sio_wire.specs.Header.{Writes, CountPart, SpacePart, HasParts, slash, dash, is_comma, is_control}

-- the text begins with no type's digit
abbrev pub HasNoKind : List ℕ → Type 0
HasNoKind t = (kind : Kind) (rest : List ℕ) → t ≢ digit_of kind ∷ rest

-- a binary packet, in which one to fifteen digits and a `-` do not follow
abbrev pub HasNoCount : List ℕ → Type 0
HasNoCount t = (kind : Kind) × (rest : List ℕ)
    × (t ≡ digit_of kind ∷ rest) × IsTrue (is_binary kind)
    × ((n : ℕ) (digits more : List ℕ) → Writes n digits → rest ≢ digits ++ dash ∷ more)

-- a binary packet with a count over 32
abbrev pub CountsTooMany : List ℕ → Type 0
CountsTooMany t = (kind : Kind) × (n : ℕ) × (digits : List ℕ) × (more : List ℕ)
    × (t ≡ digit_of kind ∷ (digits ++ dash ∷ more))
    × IsTrue (is_binary kind) × Writes n digits × (32 < n)

-- the rest of the text follows its type and count
abbrev pub FollowsCount : List ℕ → List ℕ → Type 0
FollowsCount t rest = (kind : Kind) × (n : ℕ) × (part : List ℕ)
    × (t ≡ digit_of kind ∷ (part ++ rest)) × CountPart kind n part

-- a namespace with a control character, up to the first comma or the end
abbrev pub HasBadSpace : List ℕ → Type 0
HasBadSpace t = (rest : List ℕ) × FollowsCount t rest × (slice_index rest 0 ≡ slash)
    × IsTrue (list_any is_control (before_first is_comma rest))

-- over fifteen digits behind the namespace
abbrev pub HasBadId : List ℕ → Type 0
HasBadId t = (space : List ℕ) × (part : List ℕ) × (digits : List ℕ) × (more : List ℕ)
    × FollowsCount t (part ++ (digits ++ more))
    × SpacePart space part (digits ++ more) × AllDigits 10 digits × (15 < length digits)

-- the first fault of a payload: no JSON text, then its shape, then its name, then its placeholders
abbrev pub PayloadFault : Header → SioError → Type 0
PayloadFault h BadJson = IsNoTree h.payload
PayloadFault h BadShape =
    (tree : Option Data) × IsTree h.payload tree × (has_shape h.kind h.id tree ≡ false)
PayloadFault h Reserved =
    (tree : Option Data) × IsTree h.payload tree × IsTrue (has_shape h.kind h.id tree)
    × HasReservedName h.kind tree
PayloadFault h BadPlaceholder =
    (tree : Option Data) × IsTree h.payload tree × IsTrue (has_shape h.kind h.id tree)
    × (¬ HasReservedName h.kind tree) × (¬ IsPlaced h.kind h.count tree)
PayloadFault h _ = ⊥

-- what looking at a header's payload answers
abbrev pub Checks : Header → Result ⊤ SioError → Type 0
Checks h (Ok _) = HasPayload h
Checks h (Err e) = (e ≡ Memory) ⊎ PayloadFault h e

-- the text has the header's parts, but its payload has this fault
abbrev pub HasPayloadFault : List ℕ → SioError → Type 0
HasPayloadFault t e = (h : Header) × HasParts h t × PayloadFault h e

-- the text's fault
unfoldable pub HasFault : List ℕ → SioError → Type 0
HasFault t BadKind = HasNoKind t
HasFault t BadCount = HasNoCount t
HasFault t TooMany = CountsTooMany t
HasFault t BadShape = HasBadSpace t ⊎ HasPayloadFault t BadShape
HasFault t BadId = HasBadId t
HasFault t BadJson = HasPayloadFault t BadJson
HasFault t Reserved = HasPayloadFault t Reserved
HasFault t BadPlaceholder = HasPayloadFault t BadPlaceholder
HasFault t _ = ⊥
