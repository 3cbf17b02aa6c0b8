use Rattle.std.proofs.Common.{sym, ◌∙◌}
use Rattle.room_maps.proofs.AskedLemmas.{same-rooms}
use Rattle.room_maps.proofs.asked.Asked.is_for.Goals as goal

pub returns-then-eq-clause-rooms : goal.returns-then-eq-clause-rooms
returns-then-eq-clause-rooms c = λ _. same-rooms _ _ (rw c.as_slice.ensures.value at (sym c.eq.ensures ∙ c.if-eq.true))

pub returns-then-eq-clause-excepted : goal.returns-then-eq-clause-excepted
returns-then-eq-clause-excepted c = λ same. same-rooms _ _ (rw c.as_slice-then-eq.ensures.value at (sym c.eq-then-eq.ensures ∙ same))
