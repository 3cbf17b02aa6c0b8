use Rattle.std.proofs.Common.{◌≡◌, ℕ, List, ◌++◌, length, map, Some}
use Rattle.sio_wire.specs.Texts.{text_tokens, EndsInTexts}
use Rattle.sio_wire.proofs.tree.texts_left.Given as goal

-- if only texts are left, only those that were found stood before them; if only texts were left at
-- first, only texts are left
abbrev pub invariant-texts : goal.invariant-texts
invariant-texts l = record {
  found : (rest : List (List ℕ)) → l.reader ≡ text_tokens rest
      → (all : List (List ℕ)) × (l.initial.reader ≡ text_tokens all) × (l.found.items ++ map Some rest ≡ map Some all);
  left : EndsInTexts l.initial.reader → EndsInTexts l.reader;
}

abbrev pub decreases-texts : goal.decreases-texts
decreases-texts l = length l.reader
