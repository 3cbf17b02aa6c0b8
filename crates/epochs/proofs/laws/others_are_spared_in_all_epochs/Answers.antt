use Rattle.std.proofs.Common.{[]}
use Rattle.dispatch.proofs.StepLemmas.{spared}
use Rattle.epochs.proofs.EpochLaws.{spared-in-all, put-in-all}
use Rattle.epochs.proofs.laws.others_are_spared_in_all_epochs.Goals as goal

pub returns-clause-spared : goal.returns-clause-spared
returns-clause-spared l = λ c before after sealed lists follows spares. spared-in-all c before after sealed lists follows spares

pub returns-clause-silent : goal.returns-clause-silent
returns-clause-silent l = λ c before after sealed follows nothing. spared-in-all c before after sealed [] follows (spared c before after follows nothing)

pub returns-clause-step : goal.returns-clause-step
returns-clause-step l = λ h now what sealed c more none is. put-in-all h now what sealed c more none is
