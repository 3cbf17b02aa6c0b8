use Rattle.std.proofs.Common.{[], ◌∷◌}
use Rattle.connection.specs.History.{Ponged}
use Rattle.connection.proofs.LineLemmas.{advanced, ponged}
use Rattle.connection.proofs.line.Line.pong.Goals as goal

pub invariant_of-self : goal.invariant_of-self
invariant_of-self c = advanced _ _ (Ponged c.args.now ∷ []) (ponged _ c.args.now c.pong.new.self c.pong.ensures) c.self.invariant
