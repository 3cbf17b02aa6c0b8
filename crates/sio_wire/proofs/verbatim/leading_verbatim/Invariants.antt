use Rattle.std.proofs.Common.{◌≡◌, ◌+◌, ◌-◌, ◌≤◌, length, drop}
use Rattle.std.specs.List.{prefix_len}
use Rattle.sio_wire.specs.Texts.{is_verbatim}
use Rattle.sio_wire.proofs.verbatim.leading_verbatim.Given as goal

-- those that were counted stand for themselves
abbrev pub invariant-loop-count : goal.invariant-loop-count
invariant-loop-count l = record {
  counted : prefix_len is_verbatim l.bytes ≡ l.count + prefix_len is_verbatim (drop l.count l.bytes);
  within : l.count ≤ length l.bytes;
}

abbrev pub decreases-loop-count : goal.decreases-loop-count
decreases-loop-count l = length l.bytes - l.count
