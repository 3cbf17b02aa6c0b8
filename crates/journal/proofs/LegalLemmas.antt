-- What a legal journal says of each of its steps.
use Rattle.std.proofs.Common.{◌≡◌, List, [], ◌∷◌, ◌++◌, subst}
use Rattle.journal.specs.declared.step.Step.{Step}
use Rattle.journal.specs.declared.step.What.TheVariants.{Cast}
use Rattle.journal.specs.Plain.{Limits, PlainBase, PlainBroadcast}
use Rattle.journal.specs.Broadcast.{RightCast}
use Rattle.journal.specs.Legal.{IsAllowed, IsLegal}

module _ (base : PlainBase) (limits : Limits) where
  -- each step was allowed by those before it
  allowed-at : (later : List Step) (step : Step) (before : List Step) → IsLegal base limits (later ++ step ∷ before) → IsAllowed base limits before step step.what
  unfolding IsLegal
  allowed-at [] step before legal = legal.0
  allowed-at (last ∷ later) step before legal = allowed-at later step before legal.2

  pub cast-at : (journal later : List Step) (step : Step) (before : List Step) (b : PlainBroadcast) → IsLegal base limits journal → journal ≡ later ++ step ∷ before → step.what ≡ Cast b → RightCast base limits before step b
  cast-at journal later step before b legal is what =
      let allowed = allowed-at later step before (subst (IsLegal base limits) is legal) in
      let right = subst (IsAllowed base limits before step) what allowed in
      right.1.cast
