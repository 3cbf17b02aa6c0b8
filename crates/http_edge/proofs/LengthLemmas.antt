-- A text of one to nine digits.
use Rattle.std.proofs.Common.{◌≡◌, ◌<◌, ◌^◌, ℕ, List, [], ◌∷◌, get_or, suc, zero, Result, Ok, Err, None, true, refl, rules, arith}
use Rattle.std.specs.Prelude.{All, IsTrue, IsUtf8}
use Rattle.std.specs.Char.{is_ascii_digit}
use Rattle.std.specs.Result.{result_ok}
use Rattle.std.specs.Str.{all_ascii_digits}
use Rattle.std.specs.Str.Parse.{digits_value, ParsesUnsigned}
use Rattle.std.proofs.lemmas.List.Elements.{All-head, All-tail}
use Rattle.std.proofs.lemmas.Str.{IsUtf8-from_ascii}
use Rattle.std.proofs.lemmas.Str.Parse.{IsNumeralModel, numerals_by_value, tells_all_ascii_digits, digits_value_short, parse_gives}
use Rattle.http_edge.specs.Request.{IsLength}

own : IsNumeralModel (λ ds. all_ascii_digits ds ≡ true) (digits_value 10)
own = numerals_by_value _ tells_all_ascii_digits

digits_test : (text : List ℕ) → All (λ b. IsTrue (is_ascii_digit b)) text → all_ascii_digits text ≡ true
digits_test [] all = refl
digits_test (b ∷ bs) all =
    let first : is_ascii_digit b ≡ true = search (rules, All-head (λ x. IsTrue (is_ascii_digit x)) b bs all) in
    rw first (digits_test bs (All-tail (λ x. IsTrue (is_ascii_digit x)) b bs all))

-- such a text is read
length_parses : {E : Type 0} (text : List ℕ) (r : Result ℕ E) (e : E) → IsLength text → ParsesUnsigned 64 10 text r → r ≡ Err e → ⊥
length_parses text r e len parses failed =
    let digits = digits_test text len.2 in
    let small : digits_value 10 text < 10 ^ 9 = digits_value_short own text 9 digits len.1 in
    let fits : digits_value 10 text < 2 ^ 64 = omega (arith, small) in
    let given = parse_gives own 64 text r parses digits len.0 fits in
    cc

pub length_given : {E : Type 0} (text : List ℕ) (r : Result ℕ E) → IsLength text → ParsesUnsigned 64 10 text r → result_ok r ≡ None → ⊥
length_given text (Ok n) len parses none = absurd (search (rules, none))
length_given text (Err e) len parses none = length_parses text (Err e) e len parses refl

-- and is text
ascii_at : (text : List ℕ) → All (λ b. IsTrue (is_ascii_digit b)) text → (i : ℕ) → get_or text i 0 < 128
ascii_at [] all i = omega arith
ascii_at (b ∷ bs) all zero =
    let first : is_ascii_digit b ≡ true = search (rules, All-head (λ x. IsTrue (is_ascii_digit x)) b bs all) in
    grind (arith, first)
ascii_at (b ∷ bs) all (suc i) = ascii_at bs (All-tail (λ x. IsTrue (is_ascii_digit x)) b bs all) i

pub length_is_utf8 : (text : List ℕ) → IsLength text → IsUtf8 text
length_is_utf8 text len = IsUtf8-from_ascii text (ascii_at text len.2)
