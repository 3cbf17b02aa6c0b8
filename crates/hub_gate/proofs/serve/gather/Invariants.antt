use Rattle.std.proofs.Common.{◌≡◌, ◌+◌, ◌++◌, ◌≤◌, vec_len, vec_capacity, sum_by}
use Rattle.std.specs.List.{AllZip}
use Rattle.std.specs.Vec.Iter.{into_iter_items, into_iter_len}
use Rattle.hub_gate.proofs.serve.gather.Given as goal

abbrev pub invariant-loop-handle : goal.invariant-loop-handle
invariant-loop-handle g l = record {
  count : vec_len l.all + into_iter_len l.handle-iterator ≡ into_iter_len l.initial.handle-iterator;
  fits : into_iter_len l.initial.handle-iterator ≤ vec_capacity l.all;
  yielded : l.yielded ++ into_iter_items l.handle-iterator ≡ into_iter_items l.initial.handle-iterator;
  kept : AllZip (λ h counts. (f : _) × g.B.Promise.kept_by h.promise f × (f.counts ≡ counts)) l.yielded l.all.items;
  commands : l.pass.commands ≡ l.fn.pass.commands + sum_by (λ w. w.commands) l.all.items;
  taken : l.pass.taken ≡ l.fn.pass.taken + sum_by (λ w. w.taken) l.all.items;
}
