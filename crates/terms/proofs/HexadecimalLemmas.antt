-- One digit more or less.
use Rattle.std.proofs.Common.{◌≡◌, ℕ, suc, zero, ◌+◌, ◌*◌, ◌^◌, ◌/◌, ◌%◌, ◌<◌, List, [], ◌∷◌, ◌++◌, length, drop, set, refl, ap, ◌∙◌, sym, append_assoc, add-one, length-append, arith, lit<, inl, inr, get_or, ◌≤◌}
use Rattle.std.proofs.Math.Nat.{pow-suc, pow-le-pow_right, lt_of_lt_of_le}
use Rattle.std.proofs.Math.ListN.{get_or-append}
use Rattle.std.proofs.Math.Seq.{get_or-append_seam}
use Rattle.std.proofs.lemmas.Bool.{cases_lt}
use Rattle.std.proofs.lemmas.Bool.Decides.{nat_tests}
use Rattle.std.proofs.lemmas.List.{drop-set, append_cancel_right}
use Rattle.std.proofs.lemmas.Str.{IsAscii-append}
use Rattle.std.proofs.lemmas.Str.Ascii.{IsAscii-nil, IsAscii-cons}
use Rattle.std.specs.Str.{IsAscii}
use Rattle.terms.specs.Hexadecimal.{hex_digit, hex_digits}

pub hex_digits-suc : (width number : ℕ) → hex_digits (suc width) number ≡ hex_digits width (number / 16) ++ hex_digit (number % 16) ∷ []
unfolding hex_digits
hex_digits-suc width number = refl

pub hex_digits-zero : (number : ℕ) → hex_digits 0 number ≡ []
unfolding hex_digits
hex_digits-zero number = refl

pub length-hex_digits : (width number : ℕ) → length (hex_digits width number) ≡ width
unfolding hex_digits
length-hex_digits zero number = refl
length-hex_digits (suc width) number =
    length-append (hex_digits width (number / 16)) (hex_digit (number % 16) ∷ [])
    ∙ ap (λ n. n + 1) (length-hex_digits width (number / 16))
    ∙ add-one width

-- a digit written in front of those that stand there already
pub one_digit_less : (at width rest digit : ℕ) (text all : List ℕ) → at ≡ suc width → width < length text → digit ≡ hex_digit (rest % 16)
    → hex_digits at rest ++ drop at text ≡ all → hex_digits width (rest / 16) ++ drop width (set text width digit) ≡ all
one_digit_less at width rest digit text all is l e h =
    ap (λ t. hex_digits width (rest / 16) ++ t) (drop-set text width digit l ∙ ap (λ x. x ∷ drop (width + 1) text) e ∙ ap (λ j. hex_digit (rest % 16) ∷ drop j text) (add-one width))
    ∙ sym (append_assoc (hex_digits width (rest / 16)) (hex_digit (rest % 16) ∷ []) (drop (suc width) text))
    ∙ ap (λ t. t ++ drop (suc width) text) (sym (hex_digits-suc width rest))
    ∙ ap (λ j. hex_digits j rest ++ drop j text) (sym is)
    ∙ h

-- a digit read behind those that were read already
pub one_digit_more : (width number digit : ℕ) → digit < 16 → hex_digits (width + 1) (number * 16 + digit) ≡ hex_digits width number ++ hex_digit digit ∷ []
one_digit_more width number digit d =
    ap (λ w. hex_digits w (number * 16 + digit)) (add-one width)
    ∙ hex_digits-suc width (number * 16 + digit)
    ∙ (let q : (number * 16 + digit) / 16 ≡ number = omega arith in
    let r : (number * 16 + digit) % 16 ≡ digit = omega arith in
    ap (λ n. hex_digits width n ++ hex_digit ((number * 16 + digit) % 16) ∷ []) q
    ∙ ap (λ n. hex_digits width number ++ hex_digit n ∷ []) r)

-- ---- bounds

below_sixteenfold : (number digit bound : ℕ) → digit < 16 → number < bound → number * 16 + digit < bound * 16
below_sixteenfold number digit bound d n = omega arith

pub fits_one_more : (width number digit : ℕ) → digit < 16 → number < 16 ^ width → number * 16 + digit < 16 ^ (width + 1)
fits_one_more width number digit d n =
    rw (add-one width, pow-suc 16 width) (below_sixteenfold number digit (16 ^ width) d n)

pub fits_128_bits : (width number digit : ℕ) → digit < 16 → width < 32 → number < 16 ^ width → number * 16 + digit < 2 ^ 128
fits_128_bits width number digit d w n =
    let at_most : width ≤ 31 = omega arith in
    let below : number < 16 ^ 31 = lt_of_lt_of_le n (pow-le-pow_right {n = 16} (lit< tt) at_most) in
    below_sixteenfold number digit (16 ^ 31) d below

-- ---- what stands at a place

pub digit_at : (width number place : ℕ) → place < width → (digit : ℕ) × ((digit < 16) × (get_or (hex_digits width number) place 0 ≡ hex_digit digit))
digit_at zero number place h = absurd (omega arith)
digit_at (suc width) number place h = elim (cases_lt place width) [
  | inl before ↦ (let inner = digit_at width (number / 16) place before in
      (inner.0, (inner.1.0, rw (hex_digits-suc width number) (get_or-append (hex_digits width (number / 16)) (hex_digit (number % 16) ∷ []) 0 place (rw (length-hex_digits width (number / 16)) before) ∙ inner.1.1))))
  | inr from ↦ (let same : place ≡ length (hex_digits width (number / 16)) = (let e : place ≡ width = omega arith in e ∙ sym (length-hex_digits width (number / 16))) in
      let small : number % 16 < 16 = omega arith in
      (number % 16, (small, rw (hex_digits-suc width number, same) (get_or-append_seam (hex_digits width (number / 16)) (hex_digit (number % 16)) [] 0))))
]

-- ---- the digits tell the number

hex_digit-injective : (d e : ℕ) → d < 16 → e < 16 → hex_digit d ≡ hex_digit e → d ≡ e
hex_digit-injective d e x y same = grind (arith, nat_tests)

last_digit : (width number : ℕ) → get_or (hex_digits (suc width) number) width 0 ≡ hex_digit (number % 16)
last_digit width number =
    ap (λ t. get_or t width 0) (hex_digits-suc width number)
    ∙ ap (λ k. get_or (hex_digits width (number / 16) ++ hex_digit (number % 16) ∷ []) k 0) (sym (length-hex_digits width (number / 16)))
    ∙ get_or-append_seam (hex_digits width (number / 16)) (hex_digit (number % 16)) [] 0

pub hex_digits-injective : (width m n : ℕ) → m < 16 ^ width → n < 16 ^ width → hex_digits width m ≡ hex_digits width n → m ≡ n
hex_digits-injective zero m n x y same = omega arith
hex_digits-injective (suc width) m n x y same =
    let fewer_m : m < 16 ^ width * 16 = rw pow-suc at x in
    let fewer_n : n < 16 ^ width * 16 = rw pow-suc at y in
    let last : hex_digit (m % 16) ≡ hex_digit (n % 16) = sym (last_digit width m) ∙ ap (λ t. get_or t width 0) same ∙ last_digit width n in
    let parts : hex_digits width (m / 16) ++ hex_digit (n % 16) ∷ [] ≡ hex_digits width (n / 16) ++ hex_digit (n % 16) ∷ [] =
    ap (λ d. hex_digits width (m / 16) ++ d ∷ []) (sym last) ∙ sym (hex_digits-suc width m) ∙ same ∙ hex_digits-suc width n in
    let front : hex_digits width (m / 16) ≡ hex_digits width (n / 16) = append_cancel_right (hex_digits width (m / 16)) (hex_digits width (n / 16)) (hex_digit (n % 16) ∷ []) parts in
    let quotient : m / 16 ≡ n / 16 = hex_digits-injective width (m / 16) (n / 16) (omega arith) (omega arith) front in
    let remainder : m % 16 ≡ n % 16 = hex_digit-injective (m % 16) (n % 16) (omega arith) (omega arith) last in
    omega arith

-- ---- the digits are ASCII

hex_digit-ascii : (digit : ℕ) → digit < 16 → hex_digit digit < 128
hex_digit-ascii digit small = grind (arith, nat_tests)

pub IsAscii-hex_digits : (width number : ℕ) → IsAscii (hex_digits width number)
unfolding hex_digits
IsAscii-hex_digits zero number = IsAscii-nil
IsAscii-hex_digits (suc width) number =
    IsAscii-append (hex_digits width (number / 16)) (hex_digit (number % 16) ∷ [])
    (IsAscii-hex_digits width (number / 16))
    (IsAscii-cons (hex_digit (number % 16)) [] (hex_digit-ascii (number % 16) (omega arith)) IsAscii-nil)
