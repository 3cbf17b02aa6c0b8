use Rattle.continuity.proofs.HeardLemmas.{heard-is-due}
use Rattle.continuity.proofs.laws.heard_is_due.Goals as goal

pub returns : goal.returns
returns c base limits journal pid legal truly here = heard-is-due base limits pid journal legal truly here
