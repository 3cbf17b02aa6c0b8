use Rattle.loop_rules.proofs.ReceivingLemmas.{popped_once}
use Rattle.loop_rules.proofs.receiving.Receiving.pop.Goals as goal

pub invariant_of-self-then-not-has_room-2 : goal.invariant_of-self-then-not-has_room-2
invariant_of-self-then-not-has_room-2 c = record {
  once = popped_once c.args.self.now.held.items _ c.in_ok-key.key c.args.self.now.once c.in_ok-key.ensures.items;
}

pub invariant_of-self-else-not-has_room-2 : goal.invariant_of-self-else-not-has_room-2
invariant_of-self-else-not-has_room-2 c = record {
  once = popped_once c.args.self.now.held.items _ c.in_ok-key.key c.args.self.now.once c.in_ok-key.ensures.items;
}
