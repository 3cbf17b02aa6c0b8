use Rattle.std.proofs.Common.{[]}
use Rattle.continuity.proofs.LogLemmas.{orderly, legal-base}
use Rattle.continuity.proofs.MissedLemmas.{whole-after}
use Rattle.continuity.proofs.laws.log_has_all_after.Goals as goal

pub returns : goal.returns
returns c base limits journal offset later legal there after e =
    whole-after base limits journal (orderly base limits journal legal) (orderly base limits [] (legal-base base limits journal legal)) offset later there after e
