-- How whoever is in a namespace came through the entrance.
use Rattle.std.specs.Prelude.{◌≡◌, ℕ, List, Contains}
use Rattle.journal.specs.declared.socket.Socket.{Socket}
use Rattle.journal.specs.declared.step.Step.{Step}
use Rattle.journal.specs.Plain.{Limits}
use Rattle.journal.specs.Membership.{place_of}
use Rattle.events.specs.declared.event.Event.{Event}
use Rattle.guarded.specs.declared.guarded.Entrance.{Entrance}
use Rattle.guarded.specs.declared.guarded.Pass.TheVariants.{Granted}
use Rattle.guarded.specs.Guarded.{pass_into}
use Rattle.epochs.specs.LetIn.{Brings, attached}

-- these steps attached a socket with this id in this namespace, and one of these events brought a CONNECT of its client to
-- that namespace, with a payload by which it came in at the event's moment
abbrev pub CameIn : Entrance → (apart : List (List ℕ)) → Limits → List (Event × ℕ) → List Step → (sid space : ℕ) → Type 0
CameIn entrance apart config events steps sid space = (k : Socket) × Contains (attached steps) k × (k.sid ≡ sid) × (k.space ≡ space)
    × (turn : Event × ℕ) × Contains events turn × (name payload : List ℕ) × Brings turn.0 k.client name payload
    × (place_of config name ≡ space) × (pass_into entrance apart turn.1 name payload ≡ Granted)
