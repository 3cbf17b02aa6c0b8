use Rattle.std.proofs.Common.{◌≡◌, ◌++◌, List, ℕ, ◌∷◌, ap, sym, refl, append_assoc}
use Rattle.std.specs.Prelude.{codes}
use Rattle.sio_wire.proofs.header.refused_text.Goals as goal

four_parts : (a b c d : List ℕ) → a ++ b ++ c ++ d ≡ a ++ (b ++ (c ++ d))
four_parts a b c d = simp append_assoc

pub returns-clause-ok : goal.returns-clause-ok
returns-clause-ok c =
    let message = rw c.in_ok-try_from_str.ensures at c.in_ok-message.ensures.text in
    rw (c.in_ok-write.ensures.bytes, c.in_ok-text.ensures, message refl)
    (ap (λ t. 52 ∷ t) (sym (four_parts _ (codes "{\"message\":") _ (codes "}"))))
