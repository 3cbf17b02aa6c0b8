-- The claims of a token that a key signed, whatever their time.
use Rattle.std.specs.Prelude.{ℕ, Bool, ◌||◌, not, is_some, nat_lt, if◌then◌else◌, List, length, Option, Some, None, Result, Ok, Err}
use Rattle.std.specs.List.{list_any}
use Rattle.tokens.specs.declared.verifier.Flaw.{Flaw}
use Rattle.tokens.specs.declared.verifier.Flaw.TheVariants.{Claims as BadClaims}
use Rattle.tokens.specs.declared.verifier.Verifier.{Verifier}
use Rattle.tokens.specs.Steps.{◌>>=◌}
use Rattle.tokens.specs.Form.{opened}
use Rattle.tokens.specs.Header.{check_header}
use Rattle.tokens.specs.Claims.{is_separator}
use Rattle.tokens.specs.Object.{object_of}

-- a JSON object that names no member twice
abbrev pub is_object : (text : List ℕ) → Bool
is_object text = is_some (object_of text)

-- claims are such an object, which holds no U+001E
abbrev pub if_claims : (text : List ℕ) → Result (List ℕ) Flaw
if_claims text = if list_any is_separator text || not (is_object text) then Err BadClaims else Ok text

-- the claims, where the form and the signature are good
unfoldable pub signed_by : Verifier → (token : List ℕ) → Result (List ℕ) Flaw
signed_by verifier token = do
  parts ← opened token
  _ ← check_header verifier.keys.items parts
  if_claims parts.claims

-- what is there without a flaw
abbrev pub without_flaw : Result (List ℕ) Flaw → Option (List ℕ)
without_flaw (Ok text) = Some text
without_flaw (Err flaw) = None

-- the same, where it has at most 8,192 bytes
abbrev pub signed_claims : Verifier → (token : List ℕ) → Option (List ℕ)
signed_claims verifier token = if nat_lt 8192 (length token) then None else without_flaw (signed_by verifier token)
