-- An `or` over the `xor` of two texts' bytes is 0 just where the texts are the same.
use Rattle.std.proofs.Common.{◌≡◌, refl, sym, ap, ap₂, ◌∙◌, ℕ, zero, suc, ◌<◌, Bool, true, false, List, [], ◌∷◌, ◌++◌, take, drop, length, get_or, arith, bit_or}
use Rattle.std.specs.Int.Bits.{bit_xor, xor_self, or_zero_l, xor_add_and}
use Rattle.std.proofs.Math.Seq.{take-suc}
use Rattle.std.proofs.lemmas.Nat.{le_or_l, le_or_r, and_le_l, and_le_r}

pub same_bools : (a b : Bool) → (a ≡ true → b ≡ true) → (b ≡ true → a ≡ true) → a ≡ b
same_bools true b to from = sym (to refl)
same_bools false true to from = from refl
same_bools false false to from = refl

pub none_differs : (d a b : ℕ) → bit_or d (bit_xor a b) ≡ 0 → (d ≡ 0) × (a ≡ b)
none_differs d a b is =
    (omega (arith, le_or_l d (bit_xor a b), is), omega (arith, le_or_r d (bit_xor a b), is, xor_add_and a b, and_le_l a b, and_le_r a b))

pub still_zero : (d a b : ℕ) → d ≡ 0 → a ≡ b → bit_or d (bit_xor a b) ≡ 0
still_zero d a b none same = ap₂ (λ m n. bit_or m (bit_xor a n)) none (sym same) ∙ ap (λ n. bit_or 0 n) (xor_self a) ∙ or_zero_l 0

pub one_more : (i : ℕ) (xs ys : List ℕ) → i < length xs → i < length ys → take i xs ≡ take i ys → get_or xs i 0 ≡ get_or ys i 0 → take (suc i) xs ≡ take (suc i) ys
one_more i xs ys p q front last =
    take-suc xs i 0 p ∙ ap₂ (λ f b. f ++ b ∷ []) front last ∙ sym (take-suc ys i 0 q)

pub one_less : (i : ℕ) (xs ys : List ℕ) → i < length xs → i < length ys → take (suc i) xs ≡ take (suc i) ys → (take i xs ≡ take i ys) × (get_or xs i 0 ≡ get_or ys i 0)
one_less i [] ys p q same = absurd (omega arith)
one_less i (x ∷ xs) [] p q same = absurd (omega arith)
one_less zero (x ∷ xs) (y ∷ ys) p q same = (refl, ap (λ l. get_or l 0 0) same)
one_less (suc i) (x ∷ xs) (y ∷ ys) p q same =
    let rest = one_less i xs ys (omega arith) (omega arith) (ap (λ l. drop 1 l) same) in
    (ap₂ (λ a l. a ∷ l) (ap (λ l. get_or l 0 0) same) rest.0, rest.1)
