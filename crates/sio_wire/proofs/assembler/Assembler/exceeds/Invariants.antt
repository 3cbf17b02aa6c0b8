use Rattle.std.proofs.Common.{◌≡◌, ◌+◌, length, take}
use Rattle.std.specs.List.{sum_by}
use Rattle.sio_wire.proofs.assembler.Assembler.exceeds.Given as goal

abbrev pub invariant-loop-attachment : goal.invariant-loop-attachment
invariant-loop-attachment l = l.left + sum_by (λ attachment. length attachment) (take l.attachment-index l.attachment-items) ≡ l.limit
