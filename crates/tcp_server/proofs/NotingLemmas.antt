-- What holds of the first of a list, and of one more.
use Rattle.std.proofs.Common.{◌≡◌, ◌⊎◌, inl, inr, ℕ, ◌+◌, ◌<◌, List, slice_index_or, sym, subst, arith}
use Rattle.std.proofs.lemmas.Bool.{cases_eq}

pub each_more : {A : Type 0} (P : A → Type 0) (xs : List A) (d : A) (i : ℕ) → ((k : ℕ) → k < i → P (slice_index_or xs k d)) → P (slice_index_or xs i d)
    → (k : ℕ) → k < i + 1 → P (slice_index_or xs k d)
each_more P xs d i before here k below = at (cases_eq k i)
  where
    at : (k ≡ i) ⊎ (k ≡ i → ⊥) → P (slice_index_or xs k d)
    at (inl now) = subst (λ j. P (slice_index_or xs j d)) (sym now) here
    at (inr other) = before k (omega (arith, other))
