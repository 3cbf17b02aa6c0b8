use Rattle.std.proofs.Common.{◌≡◌, ◌%◌, Some, map, option_map, arith, ap, refl, ◌∙◌}
use Rattle.std.proofs.Math.ListN.{set}
use Rattle.std.proofs.lemmas.List.{map-set}
use Rattle.std.proofs.lemmas.Option.{slice_get_read, slice_get_within, slice_get-map}
use Rattle.std.specs.List.{slice_get}
use Rattle.std.specs.Vec.Iter.{into_iter_items}
use Rattle.hub_gate.proofs.Dealing.{due_ends, due_more, empty_more, nothing_left}
use Rattle.hub_gate.proofs.serve.deal.Goals as goal

pub loop-worker-preserved : goal.loop-worker-preserved
loop-worker-preserved g c = record {
  count = omega (arith, c.in_ok-push.ensures.len, c.loop-worker.invariant.count);
  empty = rw c.in_ok-push.ensures.items (empty_more (λ q. q.items) c.loop-worker.queues.items c.new.result c.new.ensures.items c.loop-worker.invariant.empty);
}

pub loop-peer-preserved : goal.loop-peer-preserved
loop-peer-preserved g c =
    let at = c.loop-peer in
    let steps = c.in-Some.ensures.steps in
    let all = at.queues in
    let queues = map (λ q. q.items) all.items in
    let worker = at.number % c.args.workers in
    let found = slice_get_read all.items all.len worker c.index_mut.result.now all.ok.0 (omega (arith, at.invariant.count)) c.index_mut.ensures.value in
    let was : slice_get queues worker ≡ Some c.index_mut.result.now.items = slice_get-map (λ v. v.items) all.items worker ∙ ap (option_map (λ v. v.items)) found in
    let given = map-set (λ v. v.items) all.items worker c.push-in-loop-peer.new.self ∙ ap (λ xs. set queues worker xs) c.in_ok-push-2.ensures.items in
    record {
      count = at.invariant.count;
      number = omega (arith, at.invariant.number, steps.1);
      due = rw given (due_more c.args.workers at.number c.in-Some.peer (into_iter_items c.next.new.self) (into_iter_items c.into_iter-peer-iterator.result) queues worker _ refl
          (slice_get_within queues worker _ was) was (rw steps.0 at at.invariant.due));
    }

pub returns-clause-dealt : goal.returns-clause-dealt
returns-clause-dealt g c =
    let at = c.loop-peer in
    let none = nothing_left (into_iter_items at.peer-iterator) at.peer-iterator.rest.len at.peer-iterator.rest.ok.0 c.in-None.ensures.steps.0 in
    let all = c.into_iter-peer-iterator.ensures.into_iter_gives.0 in
    rw all at (due_ends c.args.workers at.number (into_iter_items c.into_iter-peer-iterator.result) (map (λ q. q.items) at.queues.items) (rw none at at.invariant.due))
