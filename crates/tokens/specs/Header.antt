-- A token's header (RFC 7515, section 4.1).
use Rattle.std.specs.Prelude.{ℕ, is_some, not, if◌then◌else◌, bytes_eq, List, codes, Option, Some, None, option_and_then, Result, Ok, Err}
use Rattle.json.specs.Json.{Json}
use Rattle.json.specs.Find.{get, as_str}
use Rattle.tokens.specs.declared.verifier.Flaw.{Flaw}
use Rattle.tokens.specs.declared.verifier.Flaw.TheVariants.{Header, Algorithm}
use Rattle.tokens.specs.declared.keys.Key.{Key}
use Rattle.tokens.specs.Steps.{◌>>=◌}
use Rattle.tokens.specs.Form.{Parts}
use Rattle.tokens.specs.Object.{object_of}
use Rattle.tokens.specs.Keys.{check_signature}

-- a text, where the member is there
abbrev pub text_or_flaw : Option (List ℕ) → Result (Option (List ℕ)) Flaw
text_or_flaw None = Err Header
text_or_flaw (Some name) = Ok (Some name)

-- `kid` may lack, and is a text where it stands (section 4.1.4)
abbrev pub named_in : Option Json → Result (Option (List ℕ)) Flaw
named_in None = Ok None
named_in (Some value) = text_or_flaw (as_str value)

-- `alg` has to stand, and be a text (section 4.1.1)
abbrev pub algorithm_in : Option (List ℕ) → Result (List ℕ) Flaw
algorithm_in None = Err Header
algorithm_in (Some name) = Ok name

-- no extension is known that a `crit` may list (section 4.1.11)
abbrev pub none_critical : Option Json → Result (Unit {0}) Flaw
none_critical None = Ok tt
none_critical (Some names) = Err Header

-- the algorithm is this one, whatever the header says
abbrev pub if_hs256 : (algorithm : List ℕ) → (name : Option (List ℕ)) → Result (Option (List ℕ)) Flaw
if_hs256 algorithm name = if bytes_eq algorithm (codes "HS256") then Ok name else Err Algorithm

-- the name of the key that a header names, if it names one
unfoldable pub key_name : (header : Json) → Result (Option (List ℕ)) Flaw
key_name header = do
  algorithm ← algorithm_in (option_and_then as_str (get (codes "alg") header))
  _ ← none_critical (get (codes "crit") header)
  name ← named_in (get (codes "kid") header)
  if_hs256 algorithm name

-- the header is an object (section 4)
abbrev pub header_in : Option Json → Result Json Flaw
header_in None = Err Header
header_in (Some header) = Ok header

-- the header is one that is known here, and the key that it names signed the token
unfoldable pub check_header : (keys : List Key) → Parts → Result (Unit {0}) Flaw
check_header keys token = do
  header ← header_in (object_of token.header)
  name ← key_name header
  check_signature keys name token.signed token.signature
