use Rattle.std.proofs.Common.{arith}
use Rattle.switchboard.proofs.ArgumentsLemmas.{few}
use Rattle.switchboard.proofs.emission.third_on.Goals as goal

pub returns-else-len-gt2 : goal.returns-else-len-gt2
returns-else-len-gt2 c = few c.args.values.now.items (omega arith)
