use Rattle.std.proofs.Common.{◌≡◌, map, take}
use Rattle.hub_state.specs.EndedSockets.{as_ended}
use Rattle.hub_state.proofs.state.end.as_ended.Given as goal

abbrev pub invariant-loop-socket : goal.invariant-loop-socket
invariant-loop-socket l = l.list.items ≡ map (as_ended l.ending l.rooms) (take l.socket-index l.sockets)
