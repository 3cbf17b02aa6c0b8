use Rattle.continuity.proofs.WithinLemmas.{stays-within}
use Rattle.continuity.proofs.laws.limits_are_kept.Goals as goal

pub returns : goal.returns
returns c base limits journal legal was = stays-within base limits journal legal was
