-- Seconds since 1970 in a token's claims (RFC 7519, section 2, "NumericDate").
use Rattle.std.specs.Prelude.{ℕ, ◌+◌, ◌-◌, ◌*◌, Bool, ◌==◌, nat_lt, if◌then◌else◌, List, [], ◌∷◌, length, Option, Some, None, option_and_then, Result, Ok, Err}
use Rattle.std.specs.Char.{is_ascii_digit}
use Rattle.std.specs.List.{list_all, before_first, after_first}
use Rattle.json.specs.Json.{Json}
use Rattle.json.specs.Find.{as_number}
use Rattle.tokens.specs.declared.verifier.Flaw.{Flaw}
use Rattle.tokens.specs.declared.verifier.Flaw.TheVariants.{Claims}

-- the number that digits write which follow those of another one
abbrev pub read_on : ℕ → List ℕ → Option ℕ
read_on n [] = Some n
read_on n (c ∷ cs) = if is_ascii_digit c then read_on (n * 10 + (c - 48)) cs else None

-- at most fifteen digits: thirty million years
abbrev pub read_whole : List ℕ → Option ℕ
read_whole text = if nat_lt 15 (length text) then None else read_on 0 text

abbrev pub is_point : ℕ → Bool
is_point byte = byte == 46

-- whole seconds of a JSON number that has no sign and no exponent. What is behind the point is cut off
unfoldable pub read_seconds : (number : List ℕ) → Option ℕ
read_seconds number = if list_all is_ascii_digit (after_first is_point number) then read_whole (before_first is_point number) else None

-- nothing but a number says seconds
abbrev pub date_of : Json → Option ℕ
date_of value = option_and_then read_seconds (as_number value)

-- what is there has to say some
abbrev pub date_or_flaw : Option ℕ → Result (Option ℕ) Flaw
date_or_flaw None = Err Claims
date_or_flaw (Some seconds) = Ok (Some seconds)

-- the seconds of a member, which may lack
abbrev pub date_in : Option Json → Result (Option ℕ) Flaw
date_in None = Ok None
date_in (Some value) = date_or_flaw (date_of value)
