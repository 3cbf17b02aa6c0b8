-- The steps of a journal as a hub keeps them.
use Rattle.std.specs.Prelude.{ℕ, List}
use Rattle.journal.specs.declared.step.Step.{Step}

-- the steps, the newest first, and how many more can be added
pub record PlainSteps : Type 0 where
  pub steps : List Step
  pub free : ℕ
