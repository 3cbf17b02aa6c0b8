use Rattle.journal.proofs.CountsLemmas.{taken_fits, discarded_fits, totals_are}
use Rattle.hub_state.proofs.state.State.totals.Goals as goal

pub overflow_sub-result : goal.overflow_sub-result
overflow_sub-result c = taken_fits _ _ _ _ c.self.invariant.3 c.self.invariant.2.conserved

pub overflow_sub-result-2 : goal.overflow_sub-result-2
overflow_sub-result-2 c = discarded_fits _ _ _ _ c.self.invariant.3 c.self.invariant.2.conserved

pub returns : goal.returns
returns c = rw (← c.self.view_is) (totals_are _ _ _ _ c.self.invariant.3 c.self.invariant.2.conserved)
