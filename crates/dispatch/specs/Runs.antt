-- A list of things, each of which leads from one state to the next.
use Rattle.std.specs.Prelude.{◌≡◌, ℕ, List, [], ◌∷◌, take, slice_get, Some, Result, Ok, Err}

-- they lead from the first state to the last, in order
unfoldable pub Runs : {S A : Type 0} → (S → A → S → Type 0) → List A → S → S → Type 0
Runs R [] s t = t ≡ s
Runs {S} R (x ∷ xs) s t = (m : S) × R s x m × Runs R xs m t

-- so many of them lead, in order, to where the next one fails, and that leads so to the last state
abbrev pub FailsAfter : {S A : Type 0} → (S → A → S → Type 0) → (S → A → S → Type 0) → (done : ℕ) → List A → S → S → Type 0
FailsAfter {S} {A} R Fails done xs s t =
    (at : S) × Runs R (take done xs) s at × (x : A) × (slice_get xs done ≡ Some x) × Fails at x t

-- they lead there, or one of them fails, and those before it lead to where it does
abbrev pub RunsOrFails : {S A E : Type 0} → (S → A → Result (Unit {0}) E → S → Type 0)
    → List A → S → Result (Unit {0}) E → S → Type 0
RunsOrFails R xs s (Ok x) t = Runs (λ a x b. R a x (Ok tt) b) xs s t
RunsOrFails R xs s (Err e) t = (done : ℕ) × FailsAfter (λ a x b. R a x (Ok tt) b) (λ a x b. R a x (Err e) b) done xs s t
