use Rattle.std.proofs.Common.{sym, ◌∙◌}
use Rattle.room_maps.proofs.MembershipLemmas.{with_pair-again}
use Rattle.room_maps.proofs.rooms.Rooms.add_missing.Goals as goal

pub returns-then-is_in-clause-ok : goal.returns-then-is_in-clause-ok
returns-then-is_in-clause-ok c = sym (with_pair-again c.args.self.now c.args.sid c.args.room (sym c.is_in.ensures ∙ c.if-is_in.true))
