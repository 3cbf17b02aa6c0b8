-- What contracts see of the values that an event of one client works on.
use Rattle.std.specs.Prelude.{◌≡◌, ℕ, Result, OnOk, IfErr}
use Rattle.events.specs.declared.fault.CoreFault.{CoreFault}
use Rattle.dispatch.specs.declared.scene.Scene as values
use Rattle.dispatch.specs.declared.scene.Visit as called
use Rattle.events.specs.declared.app.Who.{Who}
use Rattle.dispatch.specs.Effects.{Scene, scene, StandsWith}

-- whose event it is, and when it came
pub record Visit : Type 0 where
  pub client : ℕ
  pub moment : ℕ

abbrev pub visit_at : (client moment : ℕ) → Visit
visit_at client moment = record { client = client; moment = moment }

abbrev pub visit_of : called.Visit → Visit
visit_of visit = visit_at visit.client visit.moment

-- where the event stands
abbrev pub seen : values.Scene → Scene
seen s = scene s.state.now s.line.now s.tally.now

-- the socket is one of the event's client, and stands with what was done so far
abbrev pub IsActing : Who → values.Scene → Type 0
IsActing who s = (who.client ≡ s.visit.client) × StandsWith who (seen s)

-- it is the same event of the same hub and line
pub record IsSameEvent (old new : values.Scene) : Type 0 where
  pub visit : new.visit ≡ old.visit
  pub state : new.state.ghost_name ≡ old.state.ghost_name
  pub line : new.line.ghost_name ≡ old.line.ghost_name
  pub tally : new.tally.ghost_name ≡ old.tally.ghost_name

-- the event goes on at its moment: this is done, or not done, as this says
pub record DoesOrFails (does : ℕ → Scene → Scene → Type 0) (fails : ℕ → Scene → CoreFault → Scene → Type 0)
    (old : values.Scene) (result : Result (Unit {0}) CoreFault) (new : values.Scene) : Type 0 where
  pub same : IsSameEvent old new
  pub ok : OnOk result (does old.visit.moment (seen old) (seen new))
  pub err : IfErr result (λ fault. fails old.visit.moment (seen old) fault (seen new))

-- the event goes on, and is answered so
abbrev pub Plays : {R : Type 0} → (Visit → Scene → R → Scene → Type 0) → values.Scene → R → values.Scene → Type 0
Plays does old result new = IsSameEvent old new × does (visit_of old.visit) (seen old) result (seen new)
