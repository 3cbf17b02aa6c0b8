use Rattle.std.proofs.Common.{arith, ◌∙◌, refl}
use Rattle.std.specs.Arc.{arc_value}
use Rattle.terms.specs.Entry.{entry_size}
use Rattle.hub_state.proofs.OutboxLemmas.{known_size, newest_fits, newest_free, others_map}
use Rattle.hub_state.proofs.client.Outbox.pop_newest.Goals as goal

pub overflow_add-self : goal.overflow_add-self
overflow_add-self c =
    let fits = newest_fits arc_value _ c.in-Some.newest _ _ c.self.invariant.0 c.in-Some.ensures.value in
    let sizes = rw c.deref.ensures at c.size.ensures in
    let size = known_size c.size.result (entry_size (arc_value c.in-Some.newest)) sizes.some sizes.none (omega (arith, fits)) in
    omega (arith, fits, c.unwrap_or.ensures ∙ size)

pub invariant_of-self : goal.invariant_of-self
invariant_of-self c =
    let fits = newest_fits arc_value _ c.in-Some.newest _ _ c.self.invariant.0 c.in-Some.ensures.value in
    let sizes = rw c.deref.ensures at c.size.ensures in
    let size = known_size c.size.result (entry_size (arc_value c.in-Some.newest)) sizes.some sizes.none (omega (arith, fits)) in
    rw (c.unwrap_or.ensures, size, c.pop_back.ensures.items) (newest_free arc_value _ c.in-Some.newest _ _ c.self.invariant.0 c.in-Some.ensures.value, c.self.invariant.1)

pub returns-in-Some : goal.returns-in-Some
returns-in-Some c = rw (c.pop_back.ensures.items, ← c.self.view_is, others_map arc_value c.self.inside.ring.items) refl

pub returns-in_default : goal.returns-in_default
returns-in_default c = rw (c.pop_back.ensures.items, ← c.self.view_is, others_map arc_value c.self.inside.ring.items) refl
