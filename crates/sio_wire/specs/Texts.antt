-- The arrays that have nothing but texts in them, and the events that have such a payload.
use Rattle.std.specs.Prelude.{◌≡◌, ℕ, List, [], ◌∷◌, ◌++◌, All, Bool, not, ◌||◌, ◌==◌, nat_lt, IsTrue, Contains, Option, Some, map}
use Rattle.json.specs.Token.{Token, begin_array, end_array, string}
use Rattle.json.specs.Lex.{tokens}
use Rattle.sio_wire.specs.declared.header.Kind.TheVariants.{Event}
use Rattle.sio_wire.specs.declared.header.Header.{Header}
use Rattle.sio_wire.specs.Shape.{reserved_names}

-- the tokens of these texts, then the bracket that closes their array, and nothing else
abbrev pub text_tokens : List (List ℕ) → List Token
text_tokens [] = end_array ∷ []
text_tokens (text ∷ texts) = string text ∷ text_tokens texts

-- the payload is an array of these texts
abbrev pub IsArrayOf : List (List ℕ) → List ℕ → Type 0
IsArrayOf texts payload = tokens payload ≡ begin_array ∷ text_tokens texts

-- only texts are left in the array, and nothing behind it
abbrev pub EndsInTexts : List Token → Type 0
EndsInTexts rest = (texts : List (List ℕ)) × (rest ≡ text_tokens texts)

-- these are the texts of the array that the payload is
abbrev pub AreAlone : List (Option (List ℕ)) → List ℕ → Type 0
AreAlone names payload =
    (texts : List (List ℕ)) × IsArrayOf texts payload × (names ≡ map Some texts)

-- a byte that has a meaning of its own in a JSON string: a quote, a backslash, or a control character
abbrev pub is_special : ℕ → Bool
is_special byte = (byte == 34) || (byte == 92) || nat_lt byte 32

-- a byte that stands for itself there
abbrev pub is_verbatim : ℕ → Bool
is_verbatim byte = not (is_special byte)

-- the rest begins with this text, written as it is between quotes, and then this is behind it
pub record BeginsVerbatim (rest text behind : List ℕ) : Type 0 where
  pub whole : rest ≡ 34 ∷ text ++ 34 ∷ behind
  pub verbatim : All (λ byte. IsTrue (is_verbatim byte)) text

-- the first is a text, and a name that events may have
abbrev pub BeginsWithName : List (Option (List ℕ)) → Type 0
BeginsWithName names =
    (name : List ℕ) × (rest : List (Option (List ℕ))) × (names ≡ Some name ∷ rest)
    × (¬ Contains reserved_names name)

-- these are the texts of an event that has nothing else in its payload, no U+001E, and a free name
pub record HasPlainNames (h : Header) (names : List (Option (List ℕ))) : Type 0 where
  pub event : h.kind ≡ Event
  pub whole : ¬ Contains h.payload 30
  pub alone : AreAlone names h.payload
  pub named : BeginsWithName names

-- an event that has such texts
abbrev pub IsPlainEvent : Header → Type 0
IsPlainEvent h = (names : List (Option (List ℕ))) × HasPlainNames h names
