-- What an event does to the hub that threads use: its steps, which a pass counts.
use Rattle.std.specs.Prelude.{◌≡◌, ℕ, Bool}
use Rattle.journal.specs.declared.step.What.{What}
use Rattle.journal.specs.Journal.{History}
use Rattle.hub_totals.specs.Pass.{PlainHub, PlainPass, Rises}
use Rattle.dispatch.specs.Following.{is_turn, Follows}

-- the hub went on with such steps, and the pass has counted what it did
pub record GoesOn (kind : History → What → Bool) (before after : PlainHub) (old new : PlainPass) : Type 0 where
  pub follows : Follows kind before.history after.history
  pub rises : Rises before after old new
  pub rest : after.rest ≡ before.rest

-- the hub went on for an event of this client
abbrev pub TurnsFor : ℕ → (before after : PlainHub) → (old new : PlainPass) → Type 0
TurnsFor c before after old new = GoesOn (is_turn c) before after old new
