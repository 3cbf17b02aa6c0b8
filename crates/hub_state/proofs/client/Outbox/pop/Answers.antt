use Rattle.std.proofs.Common.{arith, ◌∙◌}
use Rattle.std.specs.Arc.{arc_value}
use Rattle.terms.specs.Entry.{entry_size}
use Rattle.journal.proofs.OutboxesLemmas.{popped_fits, popped_free}
use Rattle.hub_state.proofs.OutboxLemmas.{known_size}
use Rattle.hub_state.proofs.client.Outbox.pop.Goals as goal

pub overflow_add-self : goal.overflow_add-self
overflow_add-self c =
    let fits = popped_fits arc_value _ c.in_ok-oldest.oldest _ _ c.self.invariant.0 c.in_ok-oldest.ensures.value in
    let sizes = rw c.deref.ensures at c.size.ensures in
    let size = known_size c.size.result (entry_size (arc_value c.in_ok-oldest.oldest)) sizes.some sizes.none (omega (arith, fits)) in
    omega (arith, fits, c.unwrap_or.ensures ∙ size)

pub invariant_of-self-2 : goal.invariant_of-self-2
invariant_of-self-2 c =
    let fits = popped_fits arc_value _ c.in_ok-oldest.oldest _ _ c.self.invariant.0 c.in_ok-oldest.ensures.value in
    let sizes = rw c.deref.ensures at c.size.ensures in
    let size = known_size c.size.result (entry_size (arc_value c.in_ok-oldest.oldest)) sizes.some sizes.none (omega (arith, fits)) in
    rw (c.unwrap_or.ensures, size, c.pop_front.ensures.items) (popped_free arc_value _ c.in_ok-oldest.oldest _ _ c.self.invariant.0 c.in_ok-oldest.ensures.value, c.self.invariant.1)
