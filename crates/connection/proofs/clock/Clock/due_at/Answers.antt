use Rattle.std.proofs.Common.{ap, arith}
use Rattle.connection.proofs.HeartbeatLemmas.{opened-in_time, interval_start-in_time, ping-in_time}
use Rattle.connection.proofs.clock.Clock.due_at.Goals as goal

pub overflow_sub-now : goal.overflow_sub-now
overflow_sub-now c =
    omega (arith, ping-in_time _ c.in-Some.ping c.self.invariant c.in-Some.is, ap (λ s. s.last) c.self.view_is)

pub overflow_sub-now-then-not-self : goal.overflow_sub-now-then-not-self
overflow_sub-now-then-not-self c = omega (arith, opened-in_time _ c.self.invariant, ap (λ s. s.last) c.self.view_is)

pub overflow_sub-now-then-is_none : goal.overflow_sub-now-then-is_none
overflow_sub-now-then-is_none c =
    omega (arith, interval_start-in_time _ c.self.invariant, ap (λ s. s.last) c.self.view_is)
