-- Whom an app behind an entrance lets in, and what it is told (Socket.IO protocol 5, "Connection to a namespace").
use Rattle.std.specs.Prelude.{◌≡◌, ℕ, Bool, List, bytes_eq, codes, if◌then◌else◌}
use Rattle.std.specs.List.{list_any}
use Rattle.events.specs.App.{PlainVerdict, Refused}
use Rattle.events.specs.declared.app.Arrived.{Arrived}
use Rattle.events.specs.declared.app.Arrived.TheVariants.{Connected}
use Rattle.guarded.specs.declared.guarded.Entrance.{Entrance}
use Rattle.guarded.specs.declared.guarded.Pass.{Pass}
use Rattle.guarded.specs.declared.guarded.Pass.TheVariants.{Granted, NotAllowed, Expired}
use Rattle.guarded.specs.Entrance.{pass_of, introduced}

-- this is one of the namespaces that the app guards itself
abbrev pub is_apart : List (List ℕ) → (space : List ℕ) → Bool
is_apart apart space = list_any (λ name. bytes_eq name space) apart

-- who comes into a namespace at a moment, as far as the entrance is asked
abbrev pub pass_into : Entrance → (apart : List (List ℕ)) → (moment : ℕ) → (space payload : List ℕ) → Pass
pass_into entrance apart moment space payload = if is_apart apart space then Granted else pass_of entrance moment payload

-- who comes in is answered by the app, and everybody else is refused
abbrev pub Admits : Pass → (allows : PlainVerdict → Type 0) → PlainVerdict → Type 0
Admits Granted allows verdict = allows verdict
Admits NotAllowed allows verdict = verdict ≡ Refused (codes "Not allowed")
Admits Expired allows verdict = verdict ≡ Refused (codes "Token expired")

-- what the app is told of what arrived in a namespace
abbrev pub told_as : Entrance → (apart : List (List ℕ)) → (space : List ℕ) → Arrived → Arrived
told_as entrance apart space (Connected n) = if is_apart apart space then Connected n else Connected (introduced entrance.signed n)
told_as entrance apart space arrived = arrived
