use Rattle.std.proofs.Common.{◌≡◌, ◌∙◌, arith}
use Rattle.tcp_loops.proofs.RoundLemmas.{counted_all, counted_more}
use Rattle.tcp_loops.proofs.driver.Driver.hear_run.Goals as goal

pub loop-key-preserved : goal.loop-key-preserved
loop-key-preserved g c =
    let was = c.loop-key.invariant in
    record {
      round = counted_more c.args.run.now c.loop-key.key-index c.loop-key-item.result c.args.self.now.round c.loop-key.self.round _
          c.loop-key-test.true c.loop-key-item.is was.round (c.note_client.ensures.round ∙ c.count_ahead.ensures.round);
      number = c.note_client.ensures.number ∙ c.count_ahead.ensures.number ∙ was.number;
      base = c.note_client.ensures.base ∙ c.count_ahead.ensures.base ∙ was.base;
    }
