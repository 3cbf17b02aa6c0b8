-- The digits in front of a text, and the digits of a number.
use Rattle.std.proofs.Common.{◌≡◌, ◌≢◌, ℕ, zero, suc, add-one, ◌+◌, ◌<◌, ◌≤◌, List, [], ◌∷◌, Bool, true, false, cond, length, take, drop, get_or, ◌++◌, ◌^◌, refl, ap, arith}
use Rattle.std.proofs.Math.Numerals.{one-add}
use Rattle.std.proofs.lemmas.Bool.Decides.{nat_tests}
use Rattle.std.proofs.lemmas.Fmt.{digits_decimal, digits_value-decimal, length-decimal-le, decimal_nonempty}
use Rattle.std.proofs.lemmas.List.Folds.{length-prefix_len}
use Rattle.std.proofs.lemmas.List.Sums.{prefix_len_passes, prefix_len-le-length}
use Rattle.std.proofs.lemmas.Str.{IsCharBoundary-start, IsCharBoundary-after_ascii}
use Rattle.std.proofs.lemmas.Str.Parse.{IsNumeralModel, numerals_by_value, tells_digits, digits_value_short}
use Rattle.std.specs.Char.{is_ascii_digit, digit_value}
use Rattle.std.specs.List.{prefix_len}
use Rattle.std.specs.Str.{IsUtf8, IsCharBoundary}
use Rattle.std.specs.Str.Parse.{AllDigits, digits_value}
use Rattle.std.specs.Prelude.{slice_index, decimal}
use Rattle.sio_wire.specs.Scan.{digit_count, number_in_front}
use Rattle.sio_wire.specs.Header.{Writes}

pub own : IsNumeralModel (AllDigits 10) (digits_value 10)
own = numerals_by_value (AllDigits 10) tells_digits

digit_small : (c : ℕ) → is_ascii_digit c ≡ true → digit_value c < 10
digit_small c h = grind (arith, nat_tests, h)

front_step : (c : ℕ) (cs : List ℕ) (b : Bool) → is_ascii_digit c ≡ b → AllDigits 10 (take (prefix_len is_ascii_digit cs) cs)
    → AllDigits 10 (take (cond b (1 + prefix_len is_ascii_digit cs) 0) (c ∷ cs))
front_step c cs true h rest = rw one-add (digit_small c h, rest)
front_step c cs false h rest = tt

-- what stands in front is digits
pub AllDigits-front : (text : List ℕ) → AllDigits 10 (take (digit_count text) text)
AllDigits-front [] = tt
AllDigits-front (c ∷ cs) = front_step c cs (is_ascii_digit c) refl (AllDigits-front cs)

ascii_digit : (c : ℕ) → is_ascii_digit c ≡ true → c < 128
ascii_digit c h = grind (arith, nat_tests, h)

boundary_after : (text : List ℕ) (n : ℕ) → IsUtf8 text → n ≤ length text → ((k : ℕ) → k < n → is_ascii_digit (get_or text k 0) ≡ true) → IsCharBoundary text n
boundary_after text zero utf8 within digits = IsCharBoundary-start text utf8
boundary_after text (suc n) utf8 within digits = rw (← add-one) (IsCharBoundary-after_ascii text n utf8 (omega arith) (ascii_digit _ (digits n (omega arith))))

-- a text may be cut after its digits
pub IsCharBoundary-digits : (text : List ℕ) → IsUtf8 text → IsCharBoundary text (digit_count text)
IsCharBoundary-digits text utf8 = boundary_after text (digit_count text) utf8 (prefix_len-le-length is_ascii_digit text) (λ k h. prefix_len_passes is_ascii_digit text k 0 h)

digit_here : (c : ℕ) → digit_value c < 10 → is_ascii_digit c ≡ true
digit_here c h = grind (arith, nat_tests, h)

-- digits, and then something else
pub digit_count-append : (ds r : List ℕ) → AllDigits 10 ds → is_ascii_digit (slice_index r 0) ≡ false → digit_count (ds ++ r) ≡ length ds
digit_count-append [] [] each stop = refl
digit_count-append [] (c ∷ cs) each stop = rw stop
digit_count-append (d ∷ ds) r each stop = rw (digit_here d each.0, one-add) (ap suc (digit_count-append ds r each.1 stop))

-- at least these digits are in front
pub digit_count-at_least : (ds r : List ℕ) → AllDigits 10 ds → length ds ≤ digit_count (ds ++ r)
digit_count-at_least [] r each = omega arith
digit_count-at_least (d ∷ ds) r each = rw (digit_here d each.0, one-add) (let more = digit_count-at_least ds r each.1 in omega (arith, more))

-- one to fifteen digits in front write their number
pub Writes-front : (t : List ℕ) → 0 < digit_count t → digit_count t ≤ 15 → Writes (number_in_front t) (take (digit_count t) t)
Writes-front t some few = record {
  each = AllDigits-front t;
  some = rw (length-prefix_len is_ascii_digit t) some;
  few = rw (length-prefix_len is_ascii_digit t) few;
  value = refl;
}

stops_step : (c : ℕ) (cs : List ℕ) (b : Bool) → is_ascii_digit c ≡ b → is_ascii_digit (slice_index (drop (digit_count cs) cs) 0) ≡ false
    → is_ascii_digit (slice_index (drop (cond b (1 + digit_count cs) 0) (c ∷ cs)) 0) ≡ false
stops_step c cs true h later = rw one-add later
stops_step c cs false h later = h

-- no digit follows the digits in front
pub digits_stop : (t : List ℕ) → is_ascii_digit (slice_index (drop (digit_count t) t) 0) ≡ false
digits_stop [] = refl
digits_stop (c ∷ cs) = stops_step c cs (is_ascii_digit c) refl (digits_stop cs)

-- what few digits write is below ten to the power of their number
pub Writes-below : (n : ℕ) (ds : List ℕ) → Writes n ds → n < 10 ^ 15
Writes-below n ds h = let small = digits_value_short own ds 15 h.each h.few in omega (arith, small, h.value)

-- a number that few digits write is written so by its decimal digits
pub Writes-decimal : (n : ℕ) (ds : List ℕ) → Writes n ds → Writes n (decimal n)
Writes-decimal n ds h =
    let below = Writes-below n ds h in
    let fits : n < 2 ^ 64 = omega (arith, below) in
    record {
      each = digits_decimal own n fits;
      some = decimal_nonempty n fits;
      few = length-decimal-le 15 n (omega arith) below fits;
      value = digits_value-decimal own n fits;
    }

-- digits do not begin with `/`
pub digits_no_slash : (ds r : List ℕ) → AllDigits 10 ds → 0 < length ds → slice_index (ds ++ r) 0 ≢ 47
digits_no_slash [] r each some = absurd (omega (arith, some))
digits_no_slash (d ∷ ds) r each some = λ h. grind (arith, nat_tests, each.0, h)
