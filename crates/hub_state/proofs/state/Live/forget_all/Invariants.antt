use Rattle.std.proofs.Common.{take}
use Rattle.hub_state.specs.Changes.{WithoutSockets}
use Rattle.hub_state.proofs.state.Live.forget_all.Given as goal

abbrev pub invariant-loop-socket : goal.invariant-loop-socket
invariant-loop-socket l = WithoutSockets (take l.socket-index l.sockets) l.initial.self l.self
