use Rattle.std.proofs.Common.{take}
use Rattle.hub_state.specs.Changes.{WithoutNewest}
use Rattle.hub_state.proofs.state.cast.take_all_back.Given as goal

abbrev pub invariant-loop-client : goal.invariant-loop-client
invariant-loop-client l = WithoutNewest (take l.client-index l.receivers) l.initial.clients l.clients
