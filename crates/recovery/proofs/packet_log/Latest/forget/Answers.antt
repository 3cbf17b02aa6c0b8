use Rattle.std.proofs.Common.{refl, ◌∙◌}
use Rattle.std.proofs.lemmas.List.{drop-drop}
use Rattle.recovery.proofs.packet_log.Latest.forget.Goals as goal

pub loop-entry-preserved : goal.loop-entry-preserved
loop-entry-preserved c = c.forget_oldest.ensures ∙ rw (c.loop-entry.invariant, drop-drop) refl
