-- Whether a token is valid (RFC 7519, section 7.2), and the first reason why not.
use Rattle.std.specs.Prelude.{ℕ, nat_lt, if◌then◌else◌, List, length, Result, Ok, Err}
use Rattle.tokens.specs.declared.verifier.Flaw.{Flaw}
use Rattle.tokens.specs.declared.verifier.Flaw.TheVariants.{TooLong}
use Rattle.tokens.specs.declared.verifier.Verifier.{Verifier}
use Rattle.tokens.specs.declared.claims.Claims.{Claims}
use Rattle.tokens.specs.Steps.{◌>>=◌}
use Rattle.tokens.specs.Form.{opened}
use Rattle.tokens.specs.Header.{check_header}
use Rattle.tokens.specs.Claims.{check_claims}

-- what a token says whose form, signature, claims and time are good, in this order
unfoldable pub verified_by : Verifier → (seconds : ℕ) → (token : List ℕ) → Result Claims Flaw
verified_by verifier seconds token = do
  parts ← opened token
  _ ← check_header verifier.keys.items parts
  expires ← check_claims verifier.audience seconds parts.claims
  Ok (record { text = parts.claims; expires = expires })

-- the same, where it has at most 8,192 bytes
abbrev pub verified : Verifier → (seconds : ℕ) → (token : List ℕ) → Result Claims Flaw
verified verifier seconds token = if nat_lt 8192 (length token) then Err TooLong else verified_by verifier seconds token
