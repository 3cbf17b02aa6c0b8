use Rattle.std.proofs.Common.{arith, ◌<◌}
use Rattle.tcp_loops.proofs.HoldingLemmas.{saying-more}
use Rattle.tcp_loops.proofs.event_loop.EventLoop.collect.Goals as goal
use Rattle.tcp_loops.proofs.event_loop.EventLoop.collect.Goals.{in-Some-drive, in_default-drive}

-- a turn has one event more at the most
pub loop-preserved : goal.loop-preserved
loop-preserved g c =
    let was = c.loop.invariant in
    elim c.match-drive.branch [
      | in-Some-drive w ↦
          let some : 0 < c.loop.saying = omega (arith, c.if-saying-eq0.false) in
          let brought = w.in-Some-drive.brought in
          let more = saying-more c.loop.self.hold.brought brought.0 brought.1 brought.2 c.loop.saying some in
          record {
            few = rw (w.self-is, w.add-saying.ensures.added, w.saying-is, w.add-saying.ensures.left) (omega (arith, more, was.few));
            asked = rw (w.self-is, w.add-saying.ensures.added) was.asked;
            heard = rw (w.self-is, w.add-saying.ensures.added) was.heard;
            none = λ h. absurd (c.if-saying-eq0.false (was.none h).0);
          }
      | in_default-drive w ↦
          record {
            few = rw (w.self-is, w.saying-is) was.few;
            asked = rw w.self-is was.asked;
            heard = rw w.self-is was.heard;
            none = λ h. absurd (c.if-saying-eq0.false (was.none h).0);
          }
    ]
