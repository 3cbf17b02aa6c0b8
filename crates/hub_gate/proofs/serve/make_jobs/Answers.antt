use Rattle.std.proofs.Common.{◌≡◌, ◌∷◌, map, arith, ap, refl, sym, ◌∙◌, append-nil}
use Rattle.std.specs.Vec.Iter.{into_iter_items}
use Rattle.hub_gate.proofs.Dealing.{nothing_left}
use Rattle.hub_gate.proofs.PoolLemmas.{moved_on}
use Rattle.hub_gate.proofs.serve.make_jobs.Goals as goal

pub loop-queue-preserved : goal.loop-queue-preserved
loop-queue-preserved g c =
    let at = c.loop-queue in
    let queue : into_iter_items at.queue-iterator ≡ c.in-Some.queue ∷ into_iter_items c.next.new.self = c.in-Some.ensures.steps.0 in
    let source : into_iter_items at.ids ≡ c.in-Some-next.source ∷ into_iter_items c.next-in-loop-queue.new.self = c.in-Some-next.ensures.cases.0 in
    record {
      count = omega (arith, c.push_reserved.ensures.len, at.invariant.count, c.in-Some.ensures.steps.1);
      fits = omega (arith, c.push_reserved.ensures.capacity, at.invariant.fits);
      left = omega (arith, at.invariant.left, c.in-Some.ensures.steps.1, c.in-Some-next.ensures.cases.1);
      queues = rw c.push_reserved.ensures.items (moved_on (λ j. into_iter_items j.queue.peers) at.jobs.items _ c.in-Some.queue.items (map (λ q. q.items) (into_iter_items c.next.new.self)) _
          c.new.ensures (rw queue at at.invariant.queues));
      ids = rw c.push_reserved.ensures.items (moved_on (λ j. j.ids) at.jobs.items _ c.in-Some-next.source (into_iter_items c.next-in-loop-queue.new.self) _
          refl (rw source at at.invariant.ids));
    }

pub returns-clause-queues : goal.returns-clause-queues
returns-clause-queues g c =
    let at = c.loop-queue in
    let none = nothing_left (into_iter_items at.queue-iterator) at.queue-iterator.rest.len at.queue-iterator.rest.ok.0 c.in-None.ensures.steps.0 in
    sym (append-nil (map (λ j. into_iter_items j.queue.peers) at.jobs.items)) ∙ (rw none at at.invariant.queues) ∙ ap (λ qs. map (λ q. q.items) qs) c.into_iter-queue-iterator.ensures.into_iter_gives.0

pub returns-clause-ids : goal.returns-clause-ids
returns-clause-ids g c =
    let at = c.loop-queue in
    let none = nothing_left (into_iter_items at.ids) at.ids.rest.len at.ids.rest.ok.0 (omega (arith, at.invariant.left, c.in-None.ensures.steps.0)) in
    sym (append-nil (map (λ j. j.ids) at.jobs.items)) ∙ (rw none at at.invariant.ids) ∙ c.into_iter-ids.ensures.rest

pub returns-clause-len : goal.returns-clause-len
returns-clause-len g c = omega (arith, c.loop-queue.invariant.count, c.in-None.ensures.steps.0, c.into_iter-queue-iterator.ensures.into_iter_gives.1)
