use Rattle.std.proofs.Common.{◌≡◌, drop}
use Rattle.json.specs.Value.{items_view}
use Rattle.switchboard.specs.Sockets.{rooms_named}
use Rattle.switchboard.proofs.SocketsLemmas.{behind}
use Rattle.switchboard.proofs.sockets.read_rooms.Given as goal

abbrev pub invariant-loop-name : goal.invariant-loop-name
invariant-loop-name l = rooms_named (items_view l.name-items) ≡ behind l.rooms.items (rooms_named (items_view (drop l.name-index l.name-items)))
