use Rattle.continuity.proofs.SealedWithinLemmas.{sealed-within}
use Rattle.continuity.proofs.laws.seals_keep_limits.Goals as goal

pub returns : goal.returns
returns c before after allowed sealed was = sealed-within before after allowed sealed was
