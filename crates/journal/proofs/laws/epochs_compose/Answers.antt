use Rattle.journal.proofs.EpochsLemmas.{composes-back, composes-forth, sound-back, says-same-onward}
use Rattle.journal.proofs.laws.epochs_compose.Goals as goal

pub returns : goal.returns
returns c = record {
  back = λ g h now what fine fine' same allowed. composes-back g h now what fine fine' same allowed;
  forth = λ g h now what fine fine' same allowed. composes-forth g h now what fine fine' same allowed;
  sound = λ g h now what fine fine' same allowed later. sound-back g h now what fine fine' same allowed later;
  onward = λ g h k first second. says-same-onward g h k first second;
}
