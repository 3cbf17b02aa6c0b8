use Rattle.std.proofs.Common.{◌≡◌, ◌++◌, ◌∷◌, [], drop, map}
use Rattle.json.specs.Token.{string, end_array}
use Rattle.switchboard.specs.Telling.{list_of}
use Rattle.switchboard.proofs.telling.write_rooms.Given as goal

abbrev pub invariant-loop-room : goal.invariant-loop-room
invariant-loop-room l = record {
  tokens : l.writer.tokens ++ (map string (drop l.room-index l.rooms) ++ end_array ∷ []) ≡ l.fn.writer.tokens ++ list_of l.rooms;
  before : l.writer.before ≡ l.fn.writer.before;
}
