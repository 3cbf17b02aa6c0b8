-- Entries whose ids rise, as a map holds them.
use Rattle.std.proofs.Common.{◌≡◌, ℕ, ◌+◌, ◌<◌, ◌≤◌, ◌==◌, Bool, true, false, cond, not, nat_cmp, List, [], ◌∷◌, ◌++◌, Some, None, refl, sym, ap, ◌∙◌, arith}
use Rattle.std.specs.Prelude.{filter, is_some}
use Rattle.std.specs.Ordering.{match_ordering}
use Rattle.std.specs.declared.cmp.Ordering.TheVariants.{Greater}
use Rattle.std.specs.Map.{lookup, remove_entry}
use Rattle.std.specs.BTreeMap.{insert_entry, is_at}
use Rattle.std.proofs.lemmas.Bool.Decides.{nat_tests}

-- what a comparison tells of two numbers
greater : (a b : ℕ) → b < a → nat_cmp a b ≡ Greater
greater a b more = grind (arith, nat_tests)

differs : (a b : ℕ) → a < b → (a == b) ≡ false
differs a b less = grind (arith, nat_tests)

equal : (a b : ℕ) → (a == b) ≡ true → a ≡ b
equal a b same = grind (arith, nat_tests)

same_key : (a b : ℕ) → is_at (nat_cmp a) b ≡ (a == b)
same_key a b = grind (arith, nat_tests)

module _ {X : Type 0} where
  -- the ids rise, each at least `low` and below `high`
  abbrev pub RisesBetween : ℕ → ℕ → List (ℕ × X) → Type 0
  RisesBetween low high [] = low ≤ high
  RisesBetween low high (e ∷ es) = (low ≤ e.0) × RisesBetween (e.0 + 1) high es

  pub RisesBetween-lower : (low lower high : ℕ) (es : List (ℕ × X)) → lower ≤ low → RisesBetween low high es → RisesBetween lower high es
  RisesBetween-lower low lower high [] less rises = omega arith
  RisesBetween-lower low lower high (e ∷ es) less rises = (omega arith, rises.1)

  pub RisesBetween-one_more : (low high : ℕ) (x : X) (es : List (ℕ × X)) → RisesBetween low high es → RisesBetween low (high + 1) (es ++ (high, x) ∷ [])
  RisesBetween-one_more low high x [] rises = (rises, omega arith)
  RisesBetween-one_more low high x (e ∷ es) rises = (rises.0, RisesBetween-one_more (e.0 + 1) high x es rises.1)

  pub RisesBetween-filter : (test : ℕ × X → Bool) (low high : ℕ) (es : List (ℕ × X)) → RisesBetween low high es → RisesBetween low high (filter test es)
  RisesBetween-filter test low high [] rises = rises
  RisesBetween-filter test low high (e ∷ es) rises =
      let rest = RisesBetween-filter test (e.0 + 1) high es rises.1 in
      elim (test e) as (λ b. RisesBetween low high (cond b (e ∷ filter test es) (filter test es))) [
        | true ↦ (rises.0, rest)
        | false ↦ RisesBetween-lower (e.0 + 1) low high (filter test es) (omega (arith, rises.0)) rest
      ]

  pub RisesBetween-bounds : (low high : ℕ) (es : List (ℕ × X)) → RisesBetween low high es → low ≤ high
  RisesBetween-bounds low high [] rises = rises
  RisesBetween-bounds low high (e ∷ es) rises = omega (arith, rises.0, RisesBetween-bounds (e.0 + 1) high es rises.1)

  -- an id past all others is put at the end
  pub insert_entry-last : (low high : ℕ) (x : X) (es : List (ℕ × X)) → RisesBetween low high es → insert_entry nat_cmp es high x ≡ es ++ (high, x) ∷ []
  insert_entry-last low high x [] rises = refl
  insert_entry-last low high x (e ∷ es) rises =
      let more : e.0 < high = omega (arith, RisesBetween-bounds (e.0 + 1) high es rises.1) in
      ap (λ o. match_ordering o ((high, x) ∷ e ∷ es) ((e.0, x) ∷ es) (e ∷ insert_entry nat_cmp es high x)) (greater high e.0 more)
      ∙ ap (λ rest. e ∷ rest) (insert_entry-last (e.0 + 1) high x es rises.1)

  -- an id that is below all others is at none of them
  pub filter-below_all : (id low high : ℕ) (es : List (ℕ × X)) → id < low → RisesBetween low high es → filter (λ e. not (id == e.0)) es ≡ es
  filter-below_all id low high [] less rises = refl
  filter-below_all id low high (e ∷ es) less rises =
      let rest = filter (λ (e : ℕ × X). not (id == e.0)) es in
      ap (λ b. cond (not b) (e ∷ rest) rest) (differs id e.0 (omega (arith, rises.0)))
      ∙ ap (λ kept. e ∷ kept) (filter-below_all id (e.0 + 1) high es (omega (arith, rises.0)) rises.1)

  -- an id stands at one entry at most, so none is left without the first such
  pub remove_entry-filter : (id low high : ℕ) (es : List (ℕ × X)) → RisesBetween low high es → remove_entry (is_at (nat_cmp id)) es ≡ filter (λ e. not (id == e.0)) es
  remove_entry-filter id low high [] rises = refl
  remove_entry-filter id low high (e ∷ es) rises =
      let removed = remove_entry (is_at (nat_cmp id)) es in
      let kept = filter (λ (e : ℕ × X). not (id == e.0)) es in
      let by_cases : (b : Bool) → (id == e.0) ≡ b → cond b es (e ∷ removed) ≡ cond (not b) (e ∷ kept) kept =
      λ b. elim b as (λ b. (id == e.0) ≡ b → cond b es (e ∷ removed) ≡ cond (not b) (e ∷ kept) kept) [
        | true ↦ λ same. sym (filter-below_all id (e.0 + 1) high es (omega (arith, equal id e.0 same)) rises.1)
        | false ↦ λ other. ap (λ rest. e ∷ rest) (remove_entry-filter id (e.0 + 1) high es rises.1)
      ] in
      ap (λ b. cond b es (e ∷ removed)) (same_key id e.0) ∙ by_cases (id == e.0) refl

  -- a map finds by comparing what a list finds by `==`
  pub lookup-same_key : (id : ℕ) (es : List (ℕ × X)) → lookup (is_at (nat_cmp id)) es ≡ lookup (λ key. id == key) es
  lookup-same_key id [] = refl
  lookup-same_key id (e ∷ es) =
      ap (λ b. cond b (Some e.1) (lookup (is_at (nat_cmp id)) es)) (same_key id e.0)
      ∙ ap (λ found. cond (id == e.0) (Some e.1) found) (lookup-same_key id es)

  -- an entry at the end is not found under a lower id
  pub lookup-before_last : (id last : ℕ) (x : X) (es : List (ℕ × X)) → id < last → lookup (λ key. id == key) (es ++ (last, x) ∷ []) ≡ lookup (λ key. id == key) es
  lookup-before_last id last x [] less = ap (λ b. cond b (Some x) None) (differs id last less)
  lookup-before_last id last x (e ∷ es) less = ap (λ found. cond (id == e.0) (Some e.1) found) (lookup-before_last id last x es less)

  -- what is found in a part is found in the whole
  pub lookup-in_filter : (test : ℕ × X → Bool) (key_test : ℕ → Bool) (es : List (ℕ × X)) → is_some (lookup key_test (filter test es)) ≡ true → is_some (lookup key_test es) ≡ true
  lookup-in_filter test key_test [] found = found
  lookup-in_filter test key_test (e ∷ es) found =
      let kept = filter test es in
      let rest : is_some (lookup key_test kept) ≡ true → is_some (lookup key_test es) ≡ true = lookup-in_filter test key_test es in
      (elim (test e) as (λ b. is_some (lookup key_test (cond b (e ∷ kept) kept)) ≡ true → is_some (cond (key_test e.0) (Some e.1) (lookup key_test es)) ≡ true) [
        | true ↦ elim (key_test e.0) as (λ k. is_some (cond k (Some e.1) (lookup key_test kept)) ≡ true → is_some (cond k (Some e.1) (lookup key_test es)) ≡ true) [
          | true ↦ λ here. here
          | false ↦ rest
        ]
        | false ↦ λ later. elim (key_test e.0) as (λ k. is_some (cond k (Some e.1) (lookup key_test es)) ≡ true) [
          | true ↦ refl
          | false ↦ rest later
        ]
      ]) found

  -- what is found lies below the end
  pub lookup-below : (id low high : ℕ) (es : List (ℕ × X)) → RisesBetween low high es → is_some (lookup (λ key. id == key) es) ≡ true → id < high
  lookup-below id low high [] rises found = absurd (cc (found))
  lookup-below id low high (e ∷ es) rises found =
      let by_cases : (b : Bool) → (id == e.0) ≡ b → is_some (cond b (Some e.1) (lookup (λ key. id == key) es)) ≡ true → id < high =
      λ b. elim b as (λ b. (id == e.0) ≡ b → is_some (cond b (Some e.1) (lookup (λ key. id == key) es)) ≡ true → id < high) [
        | true ↦ λ same found. omega (arith, equal id e.0 same, RisesBetween-bounds (e.0 + 1) high es rises.1)
        | false ↦ λ other found. lookup-below id (e.0 + 1) high es rises.1 found
      ] in
      by_cases (id == e.0) refl found
