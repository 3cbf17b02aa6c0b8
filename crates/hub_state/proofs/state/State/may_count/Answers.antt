use Rattle.std.proofs.Common.{◌∙◌, sym, ap, None}
use Rattle.journal.specs.Refusals.{or_spent}
use Rattle.journal.proofs.CountsLemmas.{spent_for}
use Rattle.hub_state.proofs.state.State.may_count.Goals as goal

pub returns-then-passes : goal.returns-then-passes
returns-then-passes c =
    let small = rw (← c.self.view_is) at c.passes.ensures.small in
    let passes = rw (← c.self.view_is) at c.passes.ensures.passes in
    rw (← c.self.view_is) (λ what puts drops within. sym (ap (or_spent None) (sym c.if-passes.true ∙ spent_for _ _ _ _ c.self.invariant.3 c.self.invariant.2.conserved small c.args.puts c.args.drops _ passes what puts drops within)))

pub returns-else-passes : goal.returns-else-passes
returns-else-passes c =
    let small = rw (← c.self.view_is) at c.passes.ensures.small in
    let passes = rw (← c.self.view_is) at c.passes.ensures.passes in
    rw (← c.self.view_is) (λ what puts drops within. sym (ap (or_spent None) (sym c.if-passes.false ∙ spent_for _ _ _ _ c.self.invariant.3 c.self.invariant.2.conserved small c.args.puts c.args.drops _ passes what puts drops within)))
