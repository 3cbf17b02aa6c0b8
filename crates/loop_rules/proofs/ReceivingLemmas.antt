-- Who is held is listed once.
use Rattle.std.proofs.Common.{◌≡◌, ℕ, ◌+◌, ◌≤◌, ◌⊎◌, inl, inr, Bool, true, false, ◌||◌, if◌then◌else◌, List, [], ◌∷◌, ◌++◌, nat_eq, refl, sym, subst, arith}
use Rattle.std.specs.List.{list_any}
use Rattle.std.proofs.lemmas.Bool.Decides.{eqb_tells}
use Rattle.loop_rules.specs.Rotas.{one_if, times}
use Rattle.loop_rules.proofs.RotaLemmas.{times-again, times-first}

neither : (a b : Bool) → (a || b) ≡ false → (a ≡ false) × (b ≡ false)
neither true b is = absurd (cc)
neither false b is = (refl, is)

unlisted : (key : ℕ) (keys : List ℕ) → list_any (λ k. nat_eq k key) keys ≡ false → times key keys ≡ 0
unlisted key [] is = refl
unlisted key (x ∷ xs) is =
    let both = neither (nat_eq x key) (list_any (λ k. nat_eq k key) xs) is in
    let no : one_if (nat_eq x key) ≡ 0 = rw both.0 refl in
    omega (arith, times-first x key xs, no, unlisted key xs both.1)

one-more : (keys : List ℕ) (key k : ℕ) → times k keys ≤ 1 → times key keys ≡ 0
    → (((nat_eq key k ≡ true) × (key ≡ k)) ⊎ ((nat_eq key k ≡ false) × (key ≡ k → ⊥))) → times k keys + one_if (nat_eq key k) ≤ 1
one-more keys key k once none (inl same) =
    let here : times k keys ≡ 0 = subst (λ x. times x keys ≡ 0) same.1 none in
    let one : one_if (nat_eq key k) ≡ 1 = rw same.0 refl in
    omega arith
one-more keys key k once none (inr other) =
    let no : one_if (nat_eq key k) ≡ 0 = rw other.0 refl in
    omega arith

-- one that isn't listed is listed once then
pub pushed_once : (ok : Bool) (keys new : List ℕ) (key : ℕ) → ((k : ℕ) → times k keys ≤ 1)
    → list_any (λ k. nat_eq k key) keys ≡ false → new ≡ (if ok then keys ++ key ∷ [] else keys) → (k : ℕ) → times k new ≤ 1
pushed_once false keys new key once out is k = subst (λ xs. times k xs ≤ 1) (sym is) (once k)
pushed_once true keys new key once out is k =
    let more = times-again [] keys key k in
    let less = one-more keys key k (once k) (unlisted key keys out) (eqb_tells key k) in
    subst (λ xs. times k xs ≤ 1) (sym is) (omega (arith, more, less))

-- the first one leaves
pub popped_once : (keys new : List ℕ) (key : ℕ) → ((k : ℕ) → times k keys ≤ 1) → keys ≡ key ∷ new → (k : ℕ) → times k new ≤ 1
popped_once keys new key once is k =
    let was : times k (key ∷ new) ≤ 1 = subst (λ xs. times k xs ≤ 1) is (once k) in
    omega (arith, times-first key k new, was)
