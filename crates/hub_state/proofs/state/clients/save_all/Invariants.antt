use Rattle.std.proofs.Common.{◌≡◌, take}
use Rattle.journal.specs.Parking.{with_lost}
use Rattle.hub_state.proofs.state.clients.save_all.Given as goal

abbrev pub invariant-loop-socket : goal.invariant-loop-socket
invariant-loop-socket l = l.saved ≡ with_lost l.rooms l.at (take l.socket-index l.sockets) l.initial.saved
