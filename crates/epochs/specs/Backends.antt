-- How whoever is in the namespace of the backends came there.
use Rattle.std.specs.Prelude.{◌≡◌, ℕ, true, List, Contains}
use Rattle.journal.specs.declared.socket.Socket.{Socket}
use Rattle.journal.specs.declared.step.Step.{Step}
use Rattle.events.specs.declared.event.Event.{Event}
use Rattle.guarded.specs.Entrance.{has_token}
use Rattle.switchboard.specs.Telling.{BACKENDS}
use Rattle.epochs.specs.LetIn.{Brings, attached}

-- these steps attached a socket with this id in this namespace, and one of these events brought a CONNECT of its client to
-- `/backend` with the token
abbrev pub CameByToken : (token : List ℕ) → List (Event × ℕ) → List Step → (sid space : ℕ) → Type 0
CameByToken token events steps sid space = (k : Socket) × Contains (attached steps) k × (k.sid ≡ sid) × (k.space ≡ space)
    × (turn : Event × ℕ) × Contains events turn × (payload : List ℕ) × Brings turn.0 k.client BACKENDS payload × (has_token token payload ≡ true)
