use Rattle.std.proofs.Common.{◌≡◌, ◌-◌, length}
use Rattle.tcp_streams.specs.Outputs.{HandsFirst, reads_by, waiting}
use Rattle.tcp_streams.proofs.buffered.Buffered.send.Given as goal

abbrev pub invariant-loop-self : goal.invariant-loop-self
invariant-loop-self g l =
    HandsFirst (g.S.Write.contents l.fn.self.inner) (g.S.Write.contents l.self.inner) (waiting l.fn.self) (waiting l.self)
    × (reads_by l.self ≡ reads_by l.fn.self)

abbrev pub decreases-loop-self : goal.decreases-loop-self
decreases-loop-self g l = length l.self.output.items - l.self.sent
