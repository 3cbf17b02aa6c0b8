use Rattle.std.proofs.Common.{◌≡◌, ◌≤◌, ◌+◌, ◌++◌, length, vec_capacity, vec_len}
use Rattle.hub_state.proofs.client.move_all.Given as goal

abbrev pub invariant-loop-oldest : goal.invariant-loop-oldest
invariant-loop-oldest l = record {
  all : l.taken.items ++ l.ring.items ≡ l.fn.taken.items ++ l.fn.ring.items;
  same : l.ring.capacity ≡ l.fn.ring.capacity;
  room : vec_len l.taken + length l.ring.items ≤ vec_capacity l.taken;
}

abbrev pub decreases-loop-oldest : goal.decreases-loop-oldest
decreases-loop-oldest l = length l.ring.items
