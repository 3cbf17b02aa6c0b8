use Rattle.continuity.proofs.WorkedLemmas.{heard-once, due-once, heard-twice, due-twice, heard-again, due-again, heard-sealed, due-sealed, heard-sealed-again, due-sealed-again}
use Rattle.continuity.proofs.WorkedTrulyLemmas.{truly-twice}
use Rattle.continuity.proofs.laws.worked_history.Goals as goal

pub returns : goal.returns
returns c = record {
  once = (heard-once, due-once);
  twice = (heard-twice, due-twice);
  again = (heard-again, due-again);
  truly = truly-twice;
  sealed = (heard-sealed, due-sealed);
  sealed_again = (heard-sealed-again, due-sealed-again);
}
