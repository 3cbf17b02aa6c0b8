use Rattle.std.proofs.Common.{◌≡◌}
use Rattle.tcp_loops.proofs.event_loop.EventLoop.hear_all.Given as goal

-- answers are taken out
abbrev pub invariant-loop : goal.invariant-loop
invariant-loop g l = record {
  asked : l.self.hold.asked ≡ l.initial.self.hold.asked;
  brought : l.self.hold.brought ≡ l.initial.self.hold.brought;
}
