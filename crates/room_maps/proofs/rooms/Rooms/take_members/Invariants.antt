use Rattle.std.proofs.Common.{◌≡◌, take}
use Rattle.room_maps.specs.Membership.{without_members}
use Rattle.room_maps.proofs.rooms.Rooms.take_members.Given as goal

abbrev pub invariant-loop-sid : goal.invariant-loop-sid
invariant-loop-sid l = l.self ≡ without_members l.initial.self (take l.sid-index l.sids) l.room
