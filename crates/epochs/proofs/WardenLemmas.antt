-- Whom the switchboard lets in where a warden may stand before it.
use Rattle.std.proofs.Common.{◌≡◌, ℕ, Bool, true, false, List, [], refl, sym, ◌∙◌, ap, Option, Some, None}
use Rattle.std.specs.Prelude.{bytes_eq, codes, if◌then◌else◌, MatchBool}
use Rattle.std.proofs.lemmas.Slice.Eq.{bytes_eq-Decides}
use Rattle.events.specs.declared.app.Effect.{Effect}
use Rattle.events.specs.App.{PlainVerdict, Accepted, Refused}
use Rattle.guarded.specs.Entrance.{has_token}
use Rattle.guarded.specs.Telling.{EXPIRY}
use Rattle.guarded.specs.Expiring.{Allows, admitted}
use Rattle.switchboard.specs.Switchboard.{verdict_of}

-- the warden is let in with no effects, as the switchboard lets everybody into other namespaces than that of the backends
warden : (has : Bool) (effects : List Effect) → Accepted effects ≡ (if has then Accepted [] else Refused (codes "Not allowed")) → Accepted effects ≡ Accepted []
warden true effects is = is
warden false effects is = absurd (cc is)

pub let_in_inside : (own : Option (List ℕ)) (token space payload : List ℕ) (effects : List Effect)
    → Allows own space payload (λ verdict. verdict ≡ verdict_of token space payload) (Accepted effects)
    → Accepted effects ≡ verdict_of token space payload
let_in_inside None token space payload effects is = is
let_in_inside (Some own) token space payload effects is = on (bytes_eq space EXPIRY) refl is
  where
    on : (here : Bool) → bytes_eq space EXPIRY ≡ here
        → MatchBool here (Accepted effects ≡ admitted own payload) (Accepted effects ≡ verdict_of token space payload)
        → Accepted effects ≡ verdict_of token space payload
    on true here is =
        let same : space ≡ EXPIRY = (bytes_eq-Decides space EXPIRY).0 here in
        warden (has_token own payload) effects is ∙ ap (λ name. verdict_of token name payload) (sym same)
    on false here is = is
