use Rattle.std.proofs.Common.{◌≡◌, ◌+◌, ◌++◌, ◌≤◌, vec_len, vec_capacity, map}
use Rattle.std.specs.Vec.Iter.{into_iter_items, into_iter_len}
use Rattle.hub_gate.proofs.serve.make_jobs.Given as goal

abbrev pub invariant-loop-queue : goal.invariant-loop-queue
invariant-loop-queue g l = record {
  count : vec_len l.jobs + into_iter_len l.queue-iterator ≡ into_iter_len l.initial.queue-iterator;
  fits : into_iter_len l.initial.queue-iterator ≤ vec_capacity l.jobs;
  left : into_iter_len l.ids ≡ into_iter_len l.queue-iterator;
  queues : map (λ j. into_iter_items j.queue.peers) l.jobs.items ++ map (λ q. q.items) (into_iter_items l.queue-iterator)
      ≡ map (λ q. q.items) (into_iter_items l.initial.queue-iterator);
  ids : map (λ j. j.ids) l.jobs.items ++ into_iter_items l.ids ≡ into_iter_items l.initial.ids;
}
