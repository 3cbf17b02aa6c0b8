-- The text of one more id.
use Rattle.std.proofs.Common.{◌≡◌, ℕ, ◌+◌, ◌<◌, List, [], ◌∷◌, ◌++◌, take, get_or, length, ap, sym, ◌∙◌, append_assoc}
use Rattle.std.proofs.lemmas.List.{append-nil}
use Rattle.std.proofs.lemmas.List.{take_more}
use Rattle.terms.specs.Ids.{id_digits}
use Rattle.script.specs.ScriptLine.{SPACE}
use Rattle.script.specs.Printing.{ids_text}

ids_text-snoc : (ids : List ℕ) (id : ℕ) → ids_text (ids ++ id ∷ []) ≡ ids_text ids ++ SPACE ∷ id_digits id
ids_text-snoc [] id = append-nil (SPACE ∷ id_digits id)
ids_text-snoc (other ∷ ids) id =
    ap (λ l. SPACE ∷ id_digits other ++ l) (ids_text-snoc ids id) ∙ sym (append_assoc (SPACE ∷ id_digits other) (ids_text ids) (SPACE ∷ id_digits id))

pub ids_text-more : (ids : List ℕ) (i id : ℕ) → i < length ids → id ≡ get_or ids i id → ids_text (take (i + 1) ids) ≡ ids_text (take i ids) ++ SPACE ∷ id_digits id
ids_text-more ids i id low is = rw (take_more ids i id low, ← is) (ids_text-snoc (take i ids) id)
