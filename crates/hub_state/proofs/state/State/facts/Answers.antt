use Rattle.journal.proofs.LegalLemmas.{cast-at}
use Rattle.hub_state.proofs.state.State.facts.Goals as goal

pub returns-clause-casts : goal.returns-clause-casts
returns-clause-casts c = rw (← c.self.view_is) (λ later before step b is what. cast-at _ _ _ later step before b c.self.invariant.1 is what)

pub returns-clause-continuity : goal.returns-clause-continuity
returns-clause-continuity c = rw (← c.self.view_is) (λ p. c.heard_is_due.ensures _ _ _ p c.self.invariant.1)
