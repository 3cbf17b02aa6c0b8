use Rattle.std.proofs.Common.{[], ◌∷◌}
use Rattle.connection.specs.History.{GetBegan}
use Rattle.connection.proofs.LineLemmas.{advanced, get-began}
use Rattle.connection.proofs.line.Line.begin_get.Goals as goal

pub invariant_of-self : goal.invariant_of-self
invariant_of-self c = advanced _ _ (GetBegan ∷ []) (get-began _) c.self.invariant
