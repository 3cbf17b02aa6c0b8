use Rattle.std.proofs.Common.{◌≡◌, ◌+◌, ◌++◌, ◌≤◌, vec_len, vec_capacity}
use Rattle.std.specs.List.{AllZip}
use Rattle.std.specs.Vec.Iter.{into_iter_items, into_iter_len}
use Rattle.hub_gate.proofs.serve.fn.run_all.scope.Given as goal

abbrev pub invariant-loop-job : goal.invariant-loop-job
invariant-loop-job g l = record {
  count : vec_len l.handles + into_iter_len l.job-iterator ≡ into_iter_len l.initial.job-iterator;
  fits : into_iter_len l.initial.job-iterator ≤ vec_capacity l.handles;
  yielded : l.yielded ++ into_iter_items l.job-iterator ≡ into_iter_items l.initial.job-iterator;
  begun : AllZip (λ j h. (h.promise.job.value ≡ j) × (h.promise.app.value ≡ l.pool.now.app.now) × (h.promise.turns ≡ l.pool.now.turns)) l.yielded l.handles.items;
}
