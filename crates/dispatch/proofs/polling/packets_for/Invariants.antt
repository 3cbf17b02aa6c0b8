use Rattle.std.proofs.Common.{◌≡◌, ◌≤◌, take, length}
use Rattle.dispatch.specs.Takes.{carried}
use Rattle.dispatch.proofs.polling.packets_for.Given as goal

abbrev pub invariant-loop-index : goal.invariant-loop-index
invariant-loop-index l = record {
  so_far : l.packets.items ≡ carried l.ping (take l.index l.outbox.waiting);
  few : l.index ≤ length l.outbox.waiting;
}
