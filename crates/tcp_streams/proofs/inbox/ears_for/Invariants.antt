use Rattle.std.proofs.Common.{◌≡◌, vec_len}
use Rattle.tcp_streams.proofs.inbox.ears_for.Given as goal

abbrev pub invariant-loop-worker : goal.invariant-loop-worker
invariant-loop-worker g l = (vec_len l.ears ≡ l._worker) × (vec_len l.inboxes ≡ l._worker)
