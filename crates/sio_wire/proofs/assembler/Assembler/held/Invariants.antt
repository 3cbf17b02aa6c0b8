use Rattle.std.proofs.Common.{◌≡◌, min, length, take}
use Rattle.std.specs.List.{sum_by}
use Rattle.sio_wire.proofs.assembler.Assembler.held.Given as goal

abbrev pub invariant-loop-attachment : goal.invariant-loop-attachment
invariant-loop-attachment l = l.held ≡ min (sum_by (λ attachment. length attachment) (take l.attachment-index l.attachment-items)) 18446744073709551615
