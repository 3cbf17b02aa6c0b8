use Rattle.std.proofs.Common.{sym, ◌∙◌}
use Rattle.hub_state.proofs.FoundLemmas.{same-ids}
use Rattle.hub_state.proofs.seats.Found.is_for.Goals as goal

pub returns-then-self-space-clause-sids : goal.returns-then-self-space-clause-sids
returns-then-self-space-clause-sids c = λ same. same-ids _ _ (rw c.as_slice.ensures.value at (sym c.eq.ensures ∙ same))
