use Rattle.std.proofs.Common.{◌≡◌, ◌++◌, map}
use Rattle.std.specs.List.{flat_map, AllByRecursion}
use Rattle.room_maps.specs.Mirror.{entry_pairs, HasRisingRooms}
use Rattle.room_maps.proofs.links.all_pairs.Given as goal

abbrev pub invariant-loop-sid : goal.invariant-loop-sid
invariant-loop-sid l = record {
  items : l.pairs.items ++ flat_map entry_pairs l.sid-iterator ≡ flat_map entry_pairs l.by_socket.entries;
  rises : AllByRecursion HasRisingRooms l.sid-iterator → AllByRecursion HasRisingRooms l.by_socket.entries;
}

abbrev pub invariant-loop-room : goal.invariant-loop-room
invariant-loop-room l = l.pairs.items ++ (map (λ room. (l.sid, room)) l.room-iterator ++ flat_map entry_pairs l.sid-iterator) ≡ flat_map entry_pairs l.by_socket.entries
