use Rattle.std.proofs.Common.{◌≡◌, ◌∷◌, [], arith, rules, sym, ◌∙◌, append_assoc, append-nil}
use Rattle.std.specs.Vec.Iter.{into_iter_items}
use Rattle.hub_gate.proofs.Dealing.{nothing_left}
use Rattle.hub_gate.proofs.PoolLemmas.{zip_push}
use Rattle.hub_gate.proofs.serve.fn.run_all.scope.Goals as goal

pub loop-job-preserved : goal.loop-job-preserved
loop-job-preserved g c =
    let at = c.loop-job in
    let steps : into_iter_items at.job-iterator ≡ c.in-Some.job ∷ into_iter_items c.next.new.self = c.in-Some.ensures.steps.0 in
    record {
      count = omega (arith, c.push_reserved.ensures.len, at.invariant.count, c.in-Some.ensures.steps.1);
      fits = omega (arith, c.push_reserved.ensures.capacity, at.invariant.fits);
      yielded = append_assoc at.yielded (c.in-Some.job ∷ []) (into_iter_items c.next.new.self) ∙ rw (← steps) at.invariant.yielded;
      begun = rw c.push_reserved.ensures.items (zip_push (λ j h. (h.promise.job.value ≡ j) × (h.promise.app.value ≡ c.captures.pool.now.app.now) × (h.promise.turns ≡ c.captures.pool.now.turns))
          at.yielded at.handles.items c.in-Some.job c.in-Ok.handle at.invariant.begun (search rules));
    }

pub returns : goal.returns
returns g c =
    let at = c.loop-job in
    let no_job = nothing_left (into_iter_items at.job-iterator) at.job-iterator.rest.len at.job-iterator.rest.ok.0 c.in-None.ensures.steps.0 in
    let jobs = sym (append-nil at.yielded) ∙ (rw no_job at at.invariant.yielded) ∙ c.into_iter-job-iterator.ensures.into_iter_gives.0 in
    record {
      begun = rw jobs at at.invariant.begun;
      len = omega (arith, at.invariant.count, c.in-None.ensures.steps.0, c.into_iter-job-iterator.ensures.into_iter_gives.1);
      error = tt;
    }
