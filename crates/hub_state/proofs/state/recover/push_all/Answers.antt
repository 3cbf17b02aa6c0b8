use Rattle.std.proofs.Common.{◌≡◌, ◌∷◌, ◌∙◌}
use Rattle.std.specs.Arc.{arc_value}
use Rattle.std.specs.Vec.Iter.{into_iter_items}
use Rattle.journal.proofs.RecoverLemmas.{still-place}
use Rattle.hub_state.proofs.state.recover.push_all.Goals as goal

pub push-requires : goal.push-requires
push-requires c =
    let at = c.loop-entry in
    let x = c.in-Some.entry in
    let steps : into_iter_items at.entry-iterator ≡ x ∷ into_iter_items c.next.new.self = c.in-Some.ensures.steps.0 in
    let all = rw steps at at.invariant.0 ∙ c.into_iter-entry-iterator.ensures.into_iter_gives.0 in
    rw at.invariant.1 (still-place arc_value c.args.outbox.now.waiting _ at.yielded _ x c.args.outbox.now.capacity c.args.outbox.now.bytes all c.requires.places c.requires.bytes)
