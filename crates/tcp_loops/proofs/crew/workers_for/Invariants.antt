-- Each of the ears has its loop.
use Rattle.std.proofs.Common.{◌≡◌, ◌+◌, vec_len}
use Rattle.std.specs.Vec.Iter.{into_iter_len}
use Rattle.tcp_loops.proofs.crew.workers_for.Given as goal

abbrev pub invariant-loop-own : goal.invariant-loop-own
invariant-loop-own g l = vec_len l.workers + into_iter_len l.own-iterator ≡ into_iter_len l.initial.own-iterator
