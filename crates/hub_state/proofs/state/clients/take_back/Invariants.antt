use Rattle.std.proofs.Common.{◌≡◌, take}
use Rattle.journal.specs.Parking.{without_lost}
use Rattle.hub_state.proofs.state.clients.take_back.Given as goal

abbrev pub invariant-loop-socket : goal.invariant-loop-socket
invariant-loop-socket l = l.saved ≡ without_lost (take l.socket-index l.sockets) l.initial.saved
