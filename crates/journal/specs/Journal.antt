-- A journal stands here with its newest step first, so that what follows a step in the list
-- is what came before it.
use Rattle.std.specs.Prelude.{ℕ, ◌+◌, max, List, [], ◌∷◌}
use Rattle.journal.specs.declared.step.Step.{Step}
use Rattle.journal.specs.declared.step.What.{What}
use Rattle.journal.specs.Plain.{Limits, PlainBase}

-- a base, the steps since then, and what the hub was made with: all that is said of a
-- hub is read from these
pub record History : Type 0 where
  pub base : PlainBase
  pub limits : Limits
  pub journal : List Step

abbrev pub history : PlainBase → Limits → List Step → History
history base limits journal = record { base = base; limits = limits; journal = journal }

-- the moment of the newest step, or of the base
unfoldable pub moment : PlainBase → List Step → ℕ
moment base [] = base.at
moment base (step ∷ before) = step.at

-- a sum over the steps, each counted with those before it
unfoldable pub total : (List Step → What → ℕ) → ℕ → List Step → ℕ
total counts start [] = start
total counts start (step ∷ before) = total counts start before + counts before step.what

-- the moment of a step that is made now: a moment before the newest counts as the newest
abbrev pub moment_at : History → ℕ → ℕ
moment_at h now = max now (moment h.base h.journal)

-- the history with one step more
abbrev pub with_step : History → ℕ → What → History
with_step h now what =
    record {
      base = h.base;
      limits = h.limits;
      journal = record { at = moment_at h now; what = what } ∷ h.journal;
    }
