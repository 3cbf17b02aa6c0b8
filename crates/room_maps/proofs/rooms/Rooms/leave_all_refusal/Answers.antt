use Rattle.std.proofs.Common.{◌≡◌, ◌∙◌, false, sym, rules}
use Rattle.std.specs.List.{list_any}
use Rattle.std.proofs.lemmas.Iterator.{YieldsList-from_slice}
use Rattle.std.proofs.lemmas.Iterator.Search.{any_from_yields_List}
use Rattle.terms.specs.Room.{same_room, own_room}
use Rattle.room_maps.proofs.rooms.Rooms.leave_all_refusal.Goals as goal

pub returns-else-any : goal.returns-else-any
returns-else-any c =
    let none : list_any (λ sid. same_room (own_room sid) c.args.room) c.args.sids.now ≡ false =
    sym (any_from_yields_List (λ sid. same_room (own_room sid) c.args.room) _ _ c.any.result c.any.ensures.ran (YieldsList-from_slice c.args.sids.now (cc)) (λ x b q k. search rules)) ∙ c.if-any.false in
    search (rules, none)
