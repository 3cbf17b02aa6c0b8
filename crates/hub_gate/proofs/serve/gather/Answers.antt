use Rattle.std.proofs.Common.{◌≡◌, ◌∷◌, [], arith, ap, refl, sym, ◌∙◌, append_assoc, append-nil}
use Rattle.std.proofs.lemmas.List.Sums.{sum_by_push}
use Rattle.std.specs.Vec.Iter.{into_iter_items}
use Rattle.hub_totals.specs.Pass.{PlainPass}
use Rattle.hub_gate.specs.declared.worker.WorkerCounts.{WorkerCounts}
use Rattle.hub_gate.proofs.Dealing.{nothing_left}
use Rattle.hub_gate.proofs.PoolLemmas.{zip_push}
use Rattle.hub_gate.proofs.serve.gather.Goals as goal

pub loop-handle-preserved : goal.loop-handle-preserved
loop-handle-preserved g c =
    let at = c.loop-handle in
    let f = c.join-finished.result in
    let steps : into_iter_items at.handle-iterator ≡ c.in-Some.handle ∷ into_iter_items c.next.new.self = c.in-Some.ensures.steps.0 in
    record {
      count = omega (arith, c.push_reserved.ensures.len, at.invariant.count, c.in-Some.ensures.steps.1);
      fits = omega (arith, c.push_reserved.ensures.capacity, at.invariant.fits);
      yielded = append_assoc at.yielded (c.in-Some.handle ∷ []) (into_iter_items c.next.new.self) ∙ rw (← steps) at.invariant.yielded;
      kept = rw c.push_reserved.ensures.items (zip_push (λ h counts. (f : _) × g.B.Promise.kept_by h.promise f × (f.counts ≡ counts))
          at.yielded at.all.items c.in-Some.handle f.counts at.invariant.kept (f, c.join-finished.ensures, refl));
      commands = rw c.push_reserved.ensures.items (omega (
        arith,
        at.invariant.commands,
        f.counted.0,
        sum_by_push (λ (w : WorkerCounts). w.commands) at.all.items f.counts,
        ap (λ (p : PlainPass). p.commands) c.absorb.ensures,
      ));
      taken = rw c.push_reserved.ensures.items (omega (
        arith,
        at.invariant.taken,
        f.counted.1,
        sum_by_push (λ (w : WorkerCounts). w.taken) at.all.items f.counts,
        ap (λ (p : PlainPass). p.taken) c.absorb.ensures,
      ));
    }

pub returns-clause-kept : goal.returns-clause-kept
returns-clause-kept g c =
    let end = c.loop-handle in
    let none = nothing_left (into_iter_items end.handle-iterator) end.handle-iterator.rest.len end.handle-iterator.rest.ok.0 c.in-None.ensures.steps.0 in
    let handles = sym (append-nil end.yielded) ∙ (rw none at end.invariant.yielded) ∙ c.into_iter-handle-iterator.ensures.into_iter_gives.0 in
    rw handles at end.invariant.kept
