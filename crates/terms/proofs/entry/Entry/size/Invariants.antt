use Rattle.std.proofs.Common.{◌≡◌, ◌+◌, length, take}
use Rattle.std.specs.List.{sum_by}
use Rattle.terms.proofs.entry.Entry.size.Given as goal

abbrev pub invariant-loop-attachment : goal.invariant-loop-attachment
invariant-loop-attachment l = l.size ≡ length l.self.text + sum_by (λ attachment. length attachment) (take l.attachment-index l.attachment-items)
