use Rattle.std.proofs.Common.{◌≡◌, ◌+◌, ◌≤◌, take, length}
use Rattle.journal.specs.Outboxes.{total_size}
use Rattle.dispatch.specs.Takes.{most_taken}
use Rattle.dispatch.proofs.polling.fitting.Given as goal

abbrev pub invariant-loop-index : goal.invariant-loop-index
invariant-loop-index l = record {
  sizes : l.room + total_size (take l.index l.outbox.waiting) ≡ most_taken;
  few : l.index ≤ length l.outbox.waiting;
}
