-- Which texts spell a header, and the plain one (Socket.IO protocol 5, "Packet encoding").
use Rattle.std.specs.Prelude.{◌≡◌, ◌≢◌, ◌⊎◌, ◌≤◌, ◌<◌, ◌++◌, ◌==◌, ℕ, Bool, false, List, [], ◌∷◌, length, slice_index, Option, Some, None, codes, MatchBool, nat_lt, bytes_eq, decimal, if◌then◌else◌}
use Rattle.std.specs.Char.{is_ascii_digit}
use Rattle.std.specs.List.{list_any}
use Rattle.std.specs.Str.Parse.{AllDigits, digits_value}
use Rattle.sio_wire.specs.declared.header.Kind.{Kind}
use Rattle.sio_wire.specs.declared.header.Front.{Front}
use Rattle.sio_wire.specs.declared.header.Header.{Header}
use Rattle.sio_wire.specs.Kinds.{digit_of, is_binary}
use Rattle.sio_wire.specs.Shape.{HasPayload}

-- the character `-`, which ends a count
abbrev pub dash : ℕ
dash = 45

-- one to fifteen digits that write n, zeros in front or not
pub record Writes (n : ℕ) (digits : List ℕ) : Type 0 where
  pub each : AllDigits 10 digits
  pub some : 0 < length digits
  pub few : length digits ≤ 15
  pub value : digits_value 10 digits ≡ n

-- in a binary packet the digits of the count, at most 32, and a `-`; in any other nothing, and the
-- count is 0
abbrev pub CountPart : Kind → ℕ → List ℕ → Type 0
CountPart kind count part = MatchBool (is_binary kind)
    ((digits : List ℕ) × Writes count digits × (count ≤ 32) × (part ≡ digits ++ dash ∷ []))
    ((part ≡ []) × (count ≡ 0))

-- the character `/`, which begins a namespace
abbrev pub slash : ℕ
slash = 47

-- the character `,`, which ends one
abbrev pub is_comma : ℕ → Bool
is_comma b = b == 44

-- a control character under U+0020
abbrev pub is_control : ℕ → Bool
is_control b = nat_lt b 32

-- a namespace begins with `/` and has no comma and no character under U+0020
pub record IsSpace (space : List ℕ) : Type 0 where
  pub begins : slice_index space 0 ≡ slash
  pub no_comma : list_any is_comma space ≡ false
  pub no_control : list_any is_control space ≡ false

-- the namespace and a comma, or the namespace at the end of the text, or nothing for `/` where no
-- `/` follows
abbrev pub SpacePart : List ℕ → List ℕ → List ℕ → Type 0
SpacePart space part rest = ((space ≡ codes "/") × (part ≡ []) × (slice_index rest 0 ≢ slash))
    ⊎ (IsSpace space × ((part ≡ space ++ codes ",") ⊎ ((part ≡ space) × (rest ≡ []))))

-- the digits of the id, or nothing where there is none
abbrev pub IdPart : Option ℕ → List ℕ → Type 0
IdPart None part = part ≡ []
IdPart (Some n) part = Writes n part

-- the text is the type's digit, the count, the namespace, the id and the payload, which begins with
-- no digit
pub record HasParts (h : Header) (t : List ℕ) : Type 0 where
  pub count : List ℕ
  pub space : List ℕ
  pub id : List ℕ
  pub whole : t ≡ digit_of h.kind ∷ (count ++ (space ++ (id ++ h.payload)))
  pub counted : CountPart h.kind h.count count
  pub named : SpacePart h.space space (id ++ h.payload)
  pub numbered : IdPart h.id id
  pub no_digit : is_ascii_digit (slice_index h.payload 0) ≡ false

-- the text spells the header: it has these parts, and they allow this payload
unfoldable pub Sio : Header → List ℕ → Type 0
Sio h t = HasParts h t × HasPayload h

-- the text spells no header
abbrev pub SpellsNothing : List ℕ → Type 0
SpellsNothing t = (h : Header) → Sio h t → ⊥

-- the count of a binary packet and a `-`
abbrev pub count_text : Kind → ℕ → List ℕ
count_text kind count = if is_binary kind then decimal count ++ codes "-" else []

-- the namespace and a comma, but nothing for `/`
abbrev pub space_text : List ℕ → List ℕ
space_text space = if bytes_eq space (codes "/") then [] else space ++ codes ","

-- the acknowledgement id, where there is one
abbrev pub id_text : Option ℕ → List ℕ
id_text None = []
id_text (Some id) = decimal id

-- the plain text in front of a payload: the type's digit, the count, the namespace and the id
abbrev pub front_text : Front → List ℕ
front_text front = digit_of front.kind
    ∷ (count_text front.kind front.count ++ (space_text front.space.now ++ id_text front.id))

-- the text is the header's, with no zeros in front and no namespace where it is `/`
unfoldable pub Plain : Header → List ℕ → Type 0
Plain h t = t ≡ digit_of h.kind
    ∷ (count_text h.kind h.count ++ (space_text h.space ++ (id_text h.id ++ h.payload)))
