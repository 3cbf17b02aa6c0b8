use Rattle.journal.proofs.EntriesLemmas.{what-waits}
use Rattle.journal.proofs.laws.what_waits.Goals as goal

pub returns : goal.returns
returns c good base limits journal brings = what-waits good base limits journal brings
