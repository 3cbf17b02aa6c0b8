use Rattle.std.proofs.Common.{[], ◌∷◌}
use Rattle.connection.specs.History.{GetEnded}
use Rattle.connection.proofs.LineLemmas.{advanced, get-ended}
use Rattle.connection.proofs.line.Line.end_get.Goals as goal

pub invariant_of-self : goal.invariant_of-self
invariant_of-self c = advanced _ _ (GetEnded ∷ []) (get-ended _) c.self.invariant
