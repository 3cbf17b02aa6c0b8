-- The digits that a backend names when it connects, and their rooms.
use Rattle.std.specs.Prelude.{ℕ, Bool, ◌&&◌, ◌||◌, nat_le, if◌then◌else◌, List, [], ◌∷◌, codes, Option, Some, None, option_and_then}
use Rattle.serde_json.specs.Data.{Data}
use Rattle.serde_json.specs.Read.{read}
use Rattle.serde_json.specs.Find.{get, as_str}
use Rattle.events.specs.App.{PlainVerdict, Accepted, Refused}
use Rattle.events.specs.declared.app.Effect.{Effect}
use Rattle.events.specs.declared.app.Effect.TheVariants.{Join}

-- what a backend has that names none
abbrev pub ALL_DIGITS : List ℕ
ALL_DIGITS = codes "0123456789abcdef"

-- all of them where the payload says nothing of them, and none at all where it says something that is no text
abbrev pub text_or_all : Option Data → Option (List ℕ)
text_or_all None = Some ALL_DIGITS
text_or_all (Some digits) = as_str digits

-- what the payload of a CONNECT says of digits
abbrev pub digits_in : (payload : List ℕ) → Option (List ℕ)
digits_in payload = text_or_all (option_and_then (get (codes "digits")) (read payload))

-- a lower-case hexadecimal digit
abbrev pub is_digit : ℕ → Bool
is_digit c = (nat_le 48 c && nat_le c 57) || (nat_le 97 c && nat_le c 102)

-- the room of a digit is named by that one character
abbrev pub digit_room : ℕ → Option (List ℕ)
digit_room c = if is_digit c then Some (c ∷ []) else None

-- one more room to join, where it is one and all others are
abbrev pub join_too : Option (List ℕ) → Option (List Effect) → Option (List Effect)
join_too None joins = None
join_too (Some room) None = None
join_too (Some room) (Some joins) = Some (Join room ∷ joins)

-- that the socket joins the room of each, where all are digits
abbrev pub joins : (digits : List ℕ) → Option (List Effect)
joins [] = Some []
joins (c ∷ cs) = join_too (digit_room c) (joins cs)

-- at least one is needed
abbrev pub joins_verdict : Option (List Effect) → PlainVerdict
joins_verdict None = Refused (codes "Bad digits")
joins_verdict (Some []) = Refused (codes "Bad digits")
joins_verdict (Some (effect ∷ effects)) = Accepted (effect ∷ effects)

-- what a backend is told that has the token
abbrev pub digits_verdict : (payload : List ℕ) → PlainVerdict
digits_verdict payload = joins_verdict (option_and_then joins (digits_in payload))
