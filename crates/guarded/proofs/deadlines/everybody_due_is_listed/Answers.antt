use Rattle.guarded.proofs.DeadlinesLemmas.{due-listed}
use Rattle.guarded.proofs.deadlines.everybody_due_is_listed.Goals as goal

pub returns : goal.returns
returns c = due-listed
