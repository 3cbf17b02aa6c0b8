-- So many sources were made as workers were counted.
use Rattle.std.proofs.Common.{◌≡◌, vec_len}
use Rattle.tcp_loops.proofs.crew.sources.Given as goal

abbrev pub invariant-loop-worker : goal.invariant-loop-worker
invariant-loop-worker g l = vec_len l.all ≡ l.worker
