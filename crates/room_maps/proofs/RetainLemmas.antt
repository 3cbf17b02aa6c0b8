-- What `retain` leaves where its closure tests by values that it captures.
use Rattle.std.proofs.Common.{◌≡◌, refl, Bool, true, false, List, [], ◌∷◌, length, filter, ap, subst, cond, ◌∙◌, arith}
use Rattle.std.specs.List.{items_where_true}
use Rattle.std.specs.List.Retain.{ReturnsInTurn, IsFiltered}

module _ {X P : Type 0} (R : P → X → Bool → P → Type 0) (I : P → Type 0) (test : X → Bool) (says : (p : P) (x : X) (b : Bool) (q : P) → I p → R p x b q → (b ≡ test x) × I q) where
  picked : (p q : P) (bs : List Bool) (xs : List X) → I p → ReturnsInTurn R p bs xs q → length bs ≡ length xs → items_where_true bs xs ≡ filter test xs
  picked p q [] [] i run e = refl
  picked p q [] (x ∷ xs) i run e = absurd (omega arith)
  picked p q (b ∷ bs) [] i run e = absurd (omega arith)
  picked p q (true ∷ bs) (x ∷ xs) i run e =
      let said = says p x true run.0 i run.1 in
      let rest : items_where_true bs xs ≡ filter test xs = picked run.0 q bs xs said.1 run.2 (omega arith) in
      subst (λ v. items_where_true (true ∷ bs) (x ∷ xs) ≡ cond v (x ∷ filter test xs) (filter test xs)) said.0 (ap (λ l. x ∷ l) rest)
  picked p q (false ∷ bs) (x ∷ xs) i run e =
      let said = says p x false run.0 i run.1 in
      let rest : items_where_true bs xs ≡ filter test xs = picked run.0 q bs xs said.1 run.2 (omega arith) in
      subst (λ v. items_where_true (false ∷ bs) (x ∷ xs) ≡ cond v (x ∷ filter test xs) (filter test xs)) said.0 rest

  -- what a fact of the closure's state, which each call keeps, says of the test holds of the whole list
  pub filtered_by : (p : P) (xs ys : List X) → I p → IsFiltered R p xs ys → ys ≡ filter test xs
  filtered_by p xs ys i h = h.4 ∙ picked p h.1 h.0 xs i h.3 h.2
