-- When claims say that their token expires (RFC 7519, section 4.1.4).
use Rattle.std.specs.Prelude.{ℕ, List, codes, Option, Some, None, option_and_then, Result, Ok, Err}
use Rattle.json.specs.Json.{Json}
use Rattle.json.specs.Find.{get}
use Rattle.tokens.specs.declared.verifier.Flaw.{Flaw}
use Rattle.tokens.specs.Dates.{date_in}
use Rattle.tokens.specs.Object.{object_of}

-- the seconds that were read, where they could be
abbrev pub seconds_in : Result (Option ℕ) Flaw → Option ℕ
seconds_in (Ok seconds) = seconds
seconds_in (Err flaw) = None

-- `exp` of an object
abbrev pub expires_of : (claims : Json) → Option ℕ
expires_of claims = seconds_in (date_in (get (codes "exp") claims))

-- `exp` of the object that a text is
abbrev pub expires_in : (claims : List ℕ) → Option ℕ
expires_in claims = option_and_then expires_of (object_of claims)
