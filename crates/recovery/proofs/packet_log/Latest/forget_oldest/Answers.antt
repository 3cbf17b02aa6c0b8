use Rattle.std.proofs.Common.{arith, ap, ◌∙◌}
use Rattle.recovery.specs.PacketLog.{logged_size, logged_bytes}
use Rattle.recovery.proofs.LatestLemmas.{bytes_front, known_size}
use Rattle.recovery.proofs.packet_log.Latest.forget_oldest.Goals as goal

pub overflow_add-self : goal.overflow_add-self
overflow_add-self c =
    let front = bytes_front _ c.in-Some.logged c.in-Some.ensures.value in
    let size = known_size c.size.result (logged_size c.in-Some.logged) c.size.ensures.some c.size.ensures.none (omega (arith, front, c.self.invariant)) in
    omega (arith, front, c.self.invariant, c.unwrap_or.ensures ∙ size)

pub invariant_of-self : goal.invariant_of-self
invariant_of-self c =
    let front = bytes_front _ c.in-Some.logged c.in-Some.ensures.value in
    let size = known_size c.size.result (logged_size c.in-Some.logged) c.size.ensures.some c.size.ensures.none (omega (arith, front, c.self.invariant)) in
    let items = ap (λ b. logged_bytes b.items) c.pop_front.ensures.items in
    omega (arith, front, c.self.invariant, c.unwrap_or.ensures ∙ size, items)
