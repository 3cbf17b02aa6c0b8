-- Sums over the members of a list in which each stands once.
use Rattle.std.proofs.Common.{◌≡◌, ℕ, ◌+◌, ◌==◌, Bool, true, false, ◌&&◌, not, List, [], ◌∷◌, filter, refl, sym, ◌∙◌, ap, subst, arith, if◌then◌else◌, nat_eq}
use Rattle.std.specs.List.{sum_by, IsDistinct, AllByRecursion}
use Rattle.std.specs.Set.{is_member}
use Rattle.std.proofs.lemmas.Bool.{eqb-true, eq-eqb}
use Rattle.std.proofs.lemmas.Bool.Decides.{nat_tests}
use Rattle.std.proofs.lemmas.Cmp.{nat_eq_equiv}
use Rattle.std.proofs.lemmas.List.Sums.{sum_by-cons}
use Rattle.std.proofs.lemmas.Map.Made.{is_member-filter}

-- equal at each member, equal sums
pub sum-same : (f g : ℕ → ℕ) (xs : List ℕ) → ((c : ℕ) → is_member nat_eq xs c ≡ true → f c ≡ g c) → sum_by f xs ≡ sum_by g xs
sum-same f g [] h = refl
sum-same f g (x ∷ xs) h =
    let here : f x ≡ g x = h x (grind (arith, nat_tests)) in
    let rest : sum_by f xs ≡ sum_by g xs = sum-same f g xs (λ c e. h c (grind (arith, nat_tests, e))) in
    rw (sum_by-cons f x xs, sum_by-cons g x xs, here, rest) refl

pub sum-plus : (f g : ℕ → ℕ) (xs : List ℕ) → sum_by (λ c. f c + g c) xs ≡ sum_by f xs + sum_by g xs
sum-plus f g [] = refl
sum-plus f g (x ∷ xs) =
    let a = sum_by-cons (λ c. f c + g c) x xs in let b = sum_by-cons f x xs in let d = sum_by-cons g x xs in let rest = sum-plus f g xs in
    omega (arith, a, b, d, rest)

pub sum-zero : (f : ℕ → ℕ) (xs : List ℕ) → ((c : ℕ) → is_member nat_eq xs c ≡ true → f c ≡ 0) → sum_by f xs ≡ 0
sum-zero f [] h = refl
sum-zero f (x ∷ xs) h =
    let here : f x ≡ 0 = h x (grind (arith, nat_tests)) in
    let rest : sum_by f xs ≡ 0 = sum-zero f xs (λ c e. h c (grind (arith, nat_tests, e))) in
    rw (sum_by-cons f x xs, here, rest) refl

-- a member that is apart from each isn't among them
pub apart-out : (x : ℕ) (xs : List ℕ) → AllByRecursion (λ y. nat_eq x y ≡ false) xs → is_member nat_eq xs x ≡ false
apart-out x [] h = refl
apart-out x (y ∷ xs) h = let a = h.0 in let rest = apart-out x xs h.1 in grind (arith, nat_tests, a, rest)

pub out-apart : (x : ℕ) (xs : List ℕ) → is_member nat_eq xs x ≡ false → AllByRecursion (λ y. nat_eq x y ≡ false) xs
out-apart x [] h = tt
out-apart x (y ∷ xs) h = (grind (arith, nat_tests, h), out-apart x xs (grind (arith, nat_tests, h)))

-- without one that isn't there
filter-out : (d : ℕ) (xs : List ℕ) → is_member nat_eq xs d ≡ false → filter (λ c. not (d == c)) xs ≡ xs
filter-out d [] h = refl
filter-out d (x ∷ xs) h =
    let a : (d == x) ≡ false = grind (arith, nat_tests, h) in
    let rest : filter (λ c. not (d == c)) xs ≡ xs = filter-out d xs (grind (arith, nat_tests, h)) in
    rw a (ap (λ l. x ∷ l) rest)

-- a sum is what one member gives and what the others give
pub sum-without : (f : ℕ → ℕ) (d : ℕ) (xs : List ℕ) → IsDistinct nat_eq xs → is_member nat_eq xs d ≡ true → sum_by f xs ≡ f d + sum_by f (filter (λ c. not (d == c)) xs)
unfolding IsDistinct
sum-without f d [] apart h = cc
sum-without f d (x ∷ xs) apart h = on (λ m. sum-without f d xs apart.1 m) (d == x) refl
  where
    on : (is_member nat_eq xs d ≡ true → sum_by f xs ≡ f d + sum_by f (filter (λ c. not (d == c)) xs)) → (b : Bool) → (d == x) ≡ b → sum_by f (x ∷ xs) ≡ f d + sum_by f (filter (λ c. not (d == c)) (x ∷ xs))
    on others true e =
        let same : d ≡ x = eqb-true d x e in
        let out : is_member nat_eq xs d ≡ false = subst (λ z. is_member nat_eq xs z ≡ false) (sym same) (apart-out x xs apart.0) in
        rw (e, filter-out d xs out) (sum_by-cons f x xs ∙ ap (λ z. f z + sum_by f xs) (sym same))
    on others false e =
        let rest = others (grind (arith, nat_tests, h, e)) in
        let a = sum_by-cons f x xs in let b = sum_by-cons f x (filter (λ c. not (d == c)) xs) in
        rw e (omega (arith, rest, a, b))

pub distinct-filter : (test : ℕ → Bool) (xs : List ℕ) → IsDistinct nat_eq xs → IsDistinct nat_eq (filter test xs)
unfolding IsDistinct
distinct-filter test [] h = h
distinct-filter test (x ∷ xs) h = elim (test x) as (λ b. IsDistinct nat_eq (if b then x ∷ filter test xs else filter test xs)) [
  | true ↦ (keep x xs h.0, distinct-filter test xs h.1)
  | false ↦ distinct-filter test xs h.1
]
  where
    keep : (x : ℕ) (xs : List ℕ) → AllByRecursion (λ y. nat_eq x y ≡ false) xs → AllByRecursion (λ y. nat_eq x y ≡ false) (filter test xs)
    keep x [] h = tt
    keep x (y ∷ ys) h = elim (test y) as (λ b. AllByRecursion (λ z. nat_eq x z ≡ false) (if b then y ∷ filter test ys else filter test ys)) [ true ↦ (h.0, keep x ys h.1) | false ↦ keep x ys h.1 ]

pub member-filter : (test : ℕ → Bool) (q : ℕ) (xs : List ℕ) → is_member nat_eq (filter test xs) q ≡ (is_member nat_eq xs q && test q)
member-filter test q xs = is_member-filter nat_eq_equiv test q (λ x e. ap test (eqb-true q x e)) xs

-- a sum depends on the members alone
pub sum-members : (f : ℕ → ℕ) (xs ys : List ℕ) → IsDistinct nat_eq xs → IsDistinct nat_eq ys → ((q : ℕ) → is_member nat_eq xs q ≡ is_member nat_eq ys q) → sum_by f xs ≡ sum_by f ys
unfolding IsDistinct
sum-members f [] [] a b h = refl
sum-members f [] (y ∷ ys) a b h = let k = h y in let r : nat_eq y y ≡ true = eq-eqb y y refl in grind (arith, nat_tests, k, r)
sum-members f (x ∷ xs) ys a b h =
    let there : is_member nat_eq ys x ≡ true = sym (h x) ∙ grind (arith, nat_tests) in
    let rest = sum-members f xs (filter (λ c. not (x == c)) ys) a.1 (distinct-filter (λ c. not (x == c)) ys b)
    (λ q. sym (member-filter (λ c. not (x == c)) q ys ∙ others q)) in
    let w = sum-without f x ys b there in let e = sum_by-cons f x xs in omega (arith, rest, w, e)
  where
    others : (q : ℕ) → (is_member nat_eq ys q && not (x == q)) ≡ is_member nat_eq xs q
    others q = let k = h q in let o = apart-out x xs a.0 in on (x == q) refl k o
      where
        on : (t : Bool) → (x == q) ≡ t → is_member nat_eq (x ∷ xs) q ≡ is_member nat_eq ys q → is_member nat_eq xs x ≡ false → (is_member nat_eq ys q && not (x == q)) ≡ is_member nat_eq xs q
        on true e k o = let same : x ≡ q = eqb-true x q e in let p : is_member nat_eq xs q ≡ false = subst (λ z. is_member nat_eq xs z ≡ false) same o in grind (arith, nat_tests, e, p)
        on false e k o = grind (arith, nat_tests, e, k)
