use Rattle.room_maps.proofs.MembershipLemmas.{few_empty}
use Rattle.room_maps.proofs.MirrorLemmas.{mirror_empty, sets_empty}
use Rattle.std.proofs.Common.{subst, sym}
use Rattle.room_maps.specs.Membership.{HasFewRooms}
use Rattle.room_maps.proofs.rooms.Rooms.new.Goals as goal

pub invariant_of-result : goal.invariant_of-result
invariant_of-result c =
    (mirror_empty c.new.result c.new-2.result c.new.ensures.empty c.new-2.ensures.empty, subst HasFewRooms (sym (sets_empty c.new.result c.new.ensures.empty)) few_empty, λ k. rw (c.new-3.ensures k) tt)

pub returns : goal.returns
returns c = sets_empty c.new.result c.new.ensures.empty
