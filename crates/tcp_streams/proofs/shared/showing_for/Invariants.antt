use Rattle.std.proofs.Common.{◌≡◌, vec_len}
use Rattle.tcp_streams.proofs.shared.showing_for.Given as goal

abbrev pub invariant-loop-worker : goal.invariant-loop-worker
invariant-loop-worker l = vec_len l.showing ≡ l._worker
