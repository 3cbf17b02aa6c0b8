-- What clients must have to come in (Socket.IO protocol 5, "Connection to a namespace").
use Rattle.std.specs.Prelude.{◌≡◌, ◌+◌, ◌/◌, ℕ, Bool, true, false, List, [], Option, Some, None, option_and_then, unwrap_or, Result, Ok, Err, bytes_eq, if◌then◌else◌}
use Rattle.tokens.specs.declared.claims.Claims.{Claims}
use Rattle.tokens.specs.declared.verifier.Flaw.{Flaw}
use Rattle.tokens.specs.declared.verifier.Flaw.TheVariants as flaw
use Rattle.tokens.specs.declared.verifier.Verifier.{Verifier}
use Rattle.tokens.specs.Payload.{token_in, without_token}
use Rattle.tokens.specs.Signed.{signed_claims}
use Rattle.tokens.specs.Verified.{verified}
use Rattle.events.specs.declared.app.Newcomer.{Newcomer}
use Rattle.guarded.specs.declared.guarded.Entrance.{Entrance}
use Rattle.guarded.specs.declared.guarded.Pass.{Pass}
use Rattle.guarded.specs.declared.guarded.Pass.TheVariants.{Granted, NotAllowed, Expired}

-- a text is there, and is the token
abbrev pub is_token : List ℕ → Option (List ℕ) → Bool
is_token token None = false
is_token token (Some text) = bytes_eq text token

-- the payload is an object whose `token` is this text
abbrev pub has_token : List ℕ → (payload : List ℕ) → Bool
has_token token payload = is_token token (token_in payload)

-- ---- signed tokens

-- who has one that is valid comes in, and who has one that was is told so
abbrev pub pass_by : Result Claims Flaw → Pass
pass_by (Ok claims) = Granted
pass_by (Err flaw.Expired) = Expired
pass_by (Err _) = NotAllowed

-- none comes in by them where they aren't taken
abbrev pub signed_pass : Option Verifier → (seconds : ℕ) → (text : List ℕ) → Pass
signed_pass None seconds text = NotAllowed
signed_pass (Some verifier) seconds text = pass_by (verified verifier seconds text)

-- ---- both

-- the wall clock at a moment, in seconds since 1970
abbrev pub seconds_at : Entrance → (moment : ℕ) → ℕ
seconds_at entrance moment = entrance.began + moment / 1000

-- the one token or a signed one; what stands as `token` is no text where there is none
abbrev pub pass_with : (token : Option (List ℕ)) → (signed : Option Verifier) → (seconds : ℕ) → Option (List ℕ) → Pass
pass_with None None seconds text = Granted
pass_with token signed seconds None = NotAllowed
pass_with (Some token) signed seconds (Some text) = if bytes_eq text token then Granted else signed_pass signed seconds text
pass_with None signed seconds (Some text) = signed_pass signed seconds text

-- who comes in at a moment: everybody where neither the one token nor signed ones are asked for
abbrev pub pass_of : Entrance → (moment : ℕ) → (payload : List ℕ) → Pass
pass_of entrance moment payload = pass_with entrance.token entrance.signed (seconds_at entrance moment) (token_in payload)

-- ---- what the app is told

-- the claims of a token that a key signed, which are empty where there is none
abbrev pub claims_in : Verifier → (payload : List ℕ) → List ℕ
claims_in verifier payload = unwrap_or (option_and_then (signed_claims verifier) (token_in payload)) []

-- where signed tokens are taken, the app doesn't see the token but its claims
abbrev pub introduced : Option Verifier → Newcomer → Newcomer
introduced None n = n
introduced (Some verifier) n = record { payload = without_token n.payload; claims = claims_in verifier n.payload }
