use Rattle.std.proofs.Common.{is_ok}
use Rattle.loop_rules.proofs.ReceivingLemmas.{pushed_once}
use Rattle.loop_rules.proofs.receiving.Receiving.settle.Goals as goal

pub invariant_of-self : goal.invariant_of-self
invariant_of-self c = record {
  once = pushed_once (is_ok c.push_back.result) c.note_left.new.self.held.items _ c.args.key c.note_left.new.self.once (cc) c.push_back.ensures.items;
}
