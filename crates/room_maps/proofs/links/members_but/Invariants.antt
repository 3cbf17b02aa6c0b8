use Rattle.std.proofs.Common.{◌≡◌, ℕ, take, nat_cmp}
use Rattle.std.specs.Ordering.{eq_by_cmp}
use Rattle.std.specs.List.{list_any}
use Rattle.room_maps.specs.Links.{is_linked}
use Rattle.terms.specs.Room.{room_cmp}
use Rattle.room_maps.proofs.links.members_but.Given as goal

abbrev pub invariant-loop-room : goal.invariant-loop-room
invariant-loop-room l =
    (sid : ℕ) → list_any (eq_by_cmp nat_cmp sid) l.sids.items ≡ list_any (λ room. is_linked room_cmp nat_cmp l.by_room room sid) (take l.room-index l.rooms)
