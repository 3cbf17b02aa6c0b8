use Rattle.std.proofs.Common.{sym, ◌∙◌}
use Rattle.room_maps.proofs.BooleanLemmas.{second_fails}
use Rattle.room_maps.proofs.rooms.Rooms.leave.Goals as goal

pub take-requires : goal.take-requires
take-requires c = second_fails _ _ _ _ _ (sym c.leave_refusal.ensures ∙ c.in_default.is)
