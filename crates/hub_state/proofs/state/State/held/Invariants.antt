use Rattle.std.proofs.Common.{◌≡◌, ◌+◌, min, take}
use Rattle.std.specs.List.{sum_by}
use Rattle.journal.specs.Totals as totals
use Rattle.hub_state.specs.EndedSockets.{ended_size}
use Rattle.hub_state.proofs.state.State.held.Given as goal

abbrev pub invariant-loop-gone : goal.invariant-loop-gone
invariant-loop-gone l = l.bytes ≡ min (totals.held l.self.journal + sum_by ended_size (take l.gone-index l.gone-items)) 18446744073709551615
