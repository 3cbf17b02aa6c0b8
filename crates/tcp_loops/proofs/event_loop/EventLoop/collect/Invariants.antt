use Rattle.std.proofs.Common.{◌≡◌, ◌+◌, ◌≤◌}
use Rattle.tcp_loops.specs.Holding.{saying_count}
use Rattle.tcp_loops.proofs.event_loop.EventLoop.collect.Given as goal

-- of the events that bring packets so many may be added yet
abbrev pub invariant-loop : goal.invariant-loop
invariant-loop g l = record {
  few : saying_count l.self.hold.brought + l.saying ≤ saying_count l.initial.self.hold.brought + l.initial.saying;
  asked : l.self.hold.asked ≡ l.initial.self.hold.asked;
  heard : l.self.hold.heard ≡ l.initial.self.hold.heard;
  none : l.initial.saying ≡ 0 → (l.saying ≡ 0) × (l.self ≡ l.initial.self);
}
