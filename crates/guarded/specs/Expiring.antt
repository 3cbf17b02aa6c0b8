-- What an app does behind which a warden ends the sockets of tokens that have expired.
use Rattle.std.specs.Prelude.{◌≡◌, ℕ, if◌then◌else◌, bytes_eq, List, [], ◌++◌, codes, Option, Some, None, MatchBool}
use Rattle.journal.specs.declared.ending.Ending.{Ending}
use Rattle.guarded.specs.Entrance.{has_token}
use Rattle.events.specs.App.{PlainVerdict, Accepted, Refused}
use Rattle.events.specs.declared.app.Who.{Who}
use Rattle.events.specs.declared.app.Arrived.{Arrived}
use Rattle.events.specs.declared.app.Effect.{Effect}
use Rattle.guarded.specs.Telling.{EXPIRY, told, told_of_end, events_of}
use Rattle.guarded.specs.Commands.{commanded}

-- the warden comes in with its token, and nobody else
abbrev pub admitted : (token payload : List ℕ) → PlainVerdict
admitted token payload = if has_token token payload then Accepted [] else Refused (codes "Not allowed")

-- where there is a token, `/expiry` is the warden's; all else is as the app inside says
abbrev pub Allows : (token : Option (List ℕ)) → (space payload : List ℕ) → (allows : PlainVerdict → Type 0) → PlainVerdict → Type 0
Allows None space payload allows verdict = allows verdict
Allows (Some token) space payload allows verdict = MatchBool (bytes_eq space EXPIRY) (verdict ≡ admitted token payload) (allows verdict)

-- what is told, and then what the app inside wants
abbrev pub Tells : (told : Option (List ℕ)) → (wants : List Effect → Type 0) → List Effect → Type 0
Tells told wants effects = (inner : List Effect) × wants inner × (effects ≡ events_of told ++ inner)

-- the warden commands, and is told what others did; without a token all is as the app inside says
abbrev pub Decides : (token : Option (List ℕ)) → Who → Arrived → (wants : List Effect → Type 0) → List Effect → Type 0
Decides None who arrived wants effects = wants effects
Decides (Some token) who arrived wants effects = MatchBool (bytes_eq who.space EXPIRY) (effects ≡ commanded arrived) (Tells (told who arrived) wants effects)

-- and so it is where a socket has ended
abbrev pub Ends : (token : Option (List ℕ)) → Who → Ending → (wants : List Effect → Type 0) → List Effect → Type 0
Ends None who ending wants effects = wants effects
Ends (Some token) who ending wants effects = MatchBool (bytes_eq who.space EXPIRY) (effects ≡ []) (Tells (Some (told_of_end who ending)) wants effects)
