use Rattle.dispatch.proofs.StepLemmas.{spared}
use Rattle.dispatch.proofs.laws.others_are_spared.Goals as goal

pub returns : goal.returns
returns c client before after follows nothing = spared client before after follows nothing
