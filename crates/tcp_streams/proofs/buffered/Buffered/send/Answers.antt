use Rattle.std.proofs.Common.{arith}
use Rattle.tcp_streams.proofs.OutputLemmas.{gone_more, handed_count, hands_more}
use Rattle.tcp_streams.proofs.buffered.Buffered.send.Goals as goal

pub loop-self-preserved : goal.loop-self-preserved
loop-self-preserved g c =
    let taken = rw c.deref.ensures.value at c.in-Ok.ensures.bytes in
    (hands_more _ _ _ _ _ c.loop-self.self.sent c.in-Ok.count c.loop-self.invariant.0 taken, c.loop-self.invariant.1)

pub returns-in-Err-clause-since : goal.returns-in-Err-clause-since
returns-in-Err-clause-since g c = λ written gone before.
    let first = c.loop-self.invariant.0 in
    let count = handed_count _ _ _ _ first in
    gone_more _ _ _ _ written gone _ first (omega (arith, count, c.unsent-before.ensures, c.unsent-in-Err.ensures)) before
