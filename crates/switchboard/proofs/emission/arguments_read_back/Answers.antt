use Rattle.switchboard.proofs.ArgumentsLemmas.{read_back}
use Rattle.switchboard.proofs.emission.arguments_read_back.Goals as goal

pub returns : goal.returns
returns c = read_back
