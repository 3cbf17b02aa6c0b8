use Rattle.std.proofs.Common.{◌≡◌, ◌≤◌, ◌+◌, length}
use Rattle.std.specs.FinSet as set
use Rattle.terms.specs.Room.{room_cmp}
use Rattle.room_maps.proofs.rooms.distinct.Given as goal

abbrev pub invariant-rooms : goal.invariant-rooms
invariant-rooms l = record {
  count : l.count + set.len (set.from_list {R = room_cmp} l.rest) ≡ set.len (set.from_list {R = room_cmp} l.rooms);
  bound : l.count + length l.rest ≤ length l.rooms;
}

abbrev pub decreases-rooms : goal.decreases-rooms
decreases-rooms l = length l.rest
