use Rattle.std.proofs.Common.{◌≡◌, take}
use Rattle.room_maps.specs.Membership.{with_pairs}
use Rattle.room_maps.proofs.rooms.Rooms.add_rooms.Given as goal

abbrev pub invariant-loop-room : goal.invariant-loop-room
invariant-loop-room l = l.self ≡ with_pairs l.initial.self l.sid (take l.room-index l.rooms)
