use Rattle.epochs.proofs.EpochLaws.{account-next, account-anew}
use Rattle.epochs.proofs.laws.handed_in_all_epochs.Goals as goal

pub returns-clause-next : goal.returns-clause-next
returns-clause-next l = λ c earlier turns sealed g h was known begins now. account-next c earlier turns sealed g h was known begins now

pub returns-clause-anew : goal.returns-clause-anew
returns-clause-anew l = λ c earlier turns sealed h some now. account-anew c earlier turns sealed h some now
