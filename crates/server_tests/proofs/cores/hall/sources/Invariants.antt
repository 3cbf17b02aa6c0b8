use Rattle.std.proofs.Common.{◌≡◌, vec_len}
use Rattle.server_tests.proofs.cores.hall.sources.Given as goal

abbrev pub invariant-loop-worker : goal.invariant-loop-worker
invariant-loop-worker l = vec_len l.all ≡ l.worker
