-- Who is noted, and stays so.
use Rattle.std.proofs.Common.{◌≡◌, ℕ, ◌<◌, ◌⊎◌, inl, inr, Bool, true, false, ◌||◌, not, List, [], ◌∷◌, ◌++◌, length, map, nat_eq, slice_index_or, slice_set, refl, sym, ◌∙◌, ap, subst, arith}
use Rattle.std.specs.List.{list_any}
use Rattle.std.proofs.lemmas.Bool.{cases_eq}
use Rattle.std.proofs.lemmas.List.{get_or-set_same, get_or-set_other, get_or-map, length-map, map-set}
use Rattle.std.proofs.lemmas.List.Folds.{list_any-append}
use Rattle.loop_rules.proofs.RotaLemmas.{itself}

or-right : (a b : Bool) → b ≡ true → (a || b) ≡ true
or-right true b is = refl
or-right false b is = is

or-left : (a b : Bool) → a ≡ true → (a || b) ≡ true
or-left true b is = refl
or-left false b is = absurd (cc)

-- where there was no memory, everybody is noted
pub by_fit : (ok all any : Bool) → (ok ≡ true → (all || any) ≡ true) → ((all || not ok) || any) ≡ true
by_fit true true any is = refl
by_fit true false any is = is refl
by_fit false true any is = refl
by_fit false false any is = refl

one : (c : ℕ) → list_any (λ x. nat_eq x c) (c ∷ []) ≡ true
one c = rw (itself c) refl

last : (c : ℕ) (xs : List ℕ) → list_any (λ x. nat_eq x c) (xs ++ c ∷ []) ≡ true
last c xs =
    list_any-append (λ x. nat_eq x c) xs (c ∷ []) ∙ or-right (list_any (λ x. nat_eq x c) xs) (list_any (λ x. nat_eq x c) (c ∷ [])) (one c)

still : (c d : ℕ) (xs : List ℕ) → list_any (λ x. nat_eq x d) xs ≡ true → list_any (λ x. nat_eq x d) (xs ++ c ∷ []) ≡ true
still c d xs was =
    list_any-append (λ x. nat_eq x d) xs (c ∷ []) ∙ or-left (list_any (λ x. nat_eq x d) xs) (list_any (λ x. nat_eq x d) (c ∷ [])) was

module _ {V : Type 0} (f : V → List ℕ) where
  -- the list that was written
  here : (lists : List V) (n : ℕ) (v : V) → n < length lists → slice_index_or (map f (slice_set lists n v)) n [] ≡ f v
  here lists n v below =
      rw (map-set f lists n v) (get_or-set_same (map f lists) n (f v) [] (omega (arith, below, length-map lists f)))

  -- and any other
  there : (lists : List V) (n m : ℕ) (v : V) → (m ≡ n → ⊥) → slice_index_or (map f (slice_set lists n v)) m [] ≡ slice_index_or (map f lists) m []
  there lists n m v other = rw (map-set f lists n v) (get_or-set_other (map f lists) n m (f v) [] other)

  pub noted_here : (all : Bool) (lists : List V) (n c : ℕ) (v : V) (before : List ℕ) → n < length lists → f v ≡ before ++ c ∷ []
      → (all || list_any (λ x. nat_eq x c) (slice_index_or (map f (slice_set lists n v)) n [])) ≡ true
  noted_here all lists n c v before below is =
      or-right all (list_any (λ x. nat_eq x c) (slice_index_or (map f (slice_set lists n v)) n []))
      (ap (λ xs. list_any (λ x. nat_eq x c) xs) (here lists n v below ∙ is) ∙ last c before)

  kept-by : (lists : List V) (n c m d : ℕ) (old v : V) → n < length lists → old ≡ slice_index_or lists n old → f v ≡ f old ++ c ∷ []
      → list_any (λ x. nat_eq x d) (slice_index_or (map f lists) m []) ≡ true → (m ≡ n) ⊎ (m ≡ n → ⊥)
      → list_any (λ x. nat_eq x d) (slice_index_or (map f (slice_set lists n v)) m []) ≡ true
  kept-by lists n c m d old v below at is was (inr other) = ap (λ xs. list_any (λ x. nat_eq x d) xs) (there lists n m v other) ∙ was
  kept-by lists n c m d old v below at is was (inl same) =
      let before : slice_index_or (map f lists) n [] ≡ f old = get_or-map f lists n old [] below ∙ ap f (sym at) in
      let had : list_any (λ x. nat_eq x d) (f old) ≡ true =
      ap (λ xs. list_any (λ x. nat_eq x d) xs) (sym before) ∙ subst (λ k. list_any (λ x. nat_eq x d) (slice_index_or (map f lists) k []) ≡ true) same was in
      subst (λ k. list_any (λ x. nat_eq x d) (slice_index_or (map f (slice_set lists n v)) k []) ≡ true) (sym same)
      (ap (λ xs. list_any (λ x. nat_eq x d) xs) (here lists n v below ∙ is) ∙ still c d (f old) had)

  pub noted_kept : (all : Bool) (lists : List V) (n c m d : ℕ) (old v : V) → n < length lists → old ≡ slice_index_or lists n old
      → f v ≡ f old ++ c ∷ [] → (all || list_any (λ x. nat_eq x d) (slice_index_or (map f lists) m [])) ≡ true
      → (all || list_any (λ x. nat_eq x d) (slice_index_or (map f (slice_set lists n v)) m [])) ≡ true
  noted_kept true lists n c m d old v below at is was = refl
  noted_kept false lists n c m d old v below at is was = kept-by lists n c m d old v below at is was (cases_eq m n)
