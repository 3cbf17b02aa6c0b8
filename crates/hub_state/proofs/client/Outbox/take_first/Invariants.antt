use Rattle.std.proofs.Common.{◌≡◌, ◌≤◌, ◌+◌, ◌-◌, ◌++◌, drop, map, take, vec_capacity, vec_len}
use Rattle.std.specs.Arc.{arc_value}
use Rattle.hub_state.proofs.client.Outbox.take_first.Given as goal

abbrev pub invariant-loop-index : goal.invariant-loop-index
invariant-loop-index l = record {
  left : l.self ≡ record l.fn.self { waiting = drop l._index l.fn.self.waiting };
  taken : map arc_value l.taken.items ≡ map arc_value l.fn.taken.items ++ take l._index l.fn.self.waiting;
  room : vec_len l.taken + (l.count - l._index) ≤ vec_capacity l.taken;
}
