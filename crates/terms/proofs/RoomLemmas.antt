-- A name in 64 bytes, and the own room's name.
use Rattle.std.proofs.Common.{◌≡◌, ℕ, zero, suc, ◌-◌, ◌/◌, ◌%◌, ◌<◌, List, [], ◌∷◌, ◌++◌, length, take, replicate, refl, sym, ap, ◌∙◌, subst, arith}
use Rattle.std.specs.Str.{IsAscii, IsUtf8}
use Rattle.std.proofs.lemmas.Str.{IsUtf8-from_ascii}
use Rattle.std.proofs.lemmas.Str.Ascii.{IsAscii-nil, IsAscii-push}
use Rattle.std.proofs.lemmas.Bool.Decides.{nat_tests}
use Rattle.terms.specs.Hexadecimal.{hex_digit, hex_digits}
use Rattle.terms.proofs.HexadecimalLemmas.{hex_digits-suc, hex_digits-zero}
use Rattle.terms.specs.Room.{padded}

pub take-padded : (n : ℕ) (xs : List ℕ) → length xs ≡ n → take n (padded xs) ≡ xs
take-padded n xs e = ap (λ m. take m (padded xs)) (sym e) ∙ take_front xs (replicate (64 - length xs) 0)
  where
    take_front : (xs ys : List ℕ) → take (length xs) (xs ++ ys) ≡ xs
    take_front [] ys = refl
    take_front (x ∷ xs) ys = ap (λ t. x ∷ t) (take_front xs ys)

hex_digit-ascii : (digit : ℕ) → digit < 16 → hex_digit digit < 128
hex_digit-ascii digit h = grind (arith, nat_tests)

hex_digits-IsAscii : (width number : ℕ) → IsAscii (hex_digits width number)
hex_digits-IsAscii zero number = subst IsAscii (sym (hex_digits-zero number)) IsAscii-nil
hex_digits-IsAscii (suc width) number =
    subst IsAscii (sym (hex_digits-suc width number))
    (IsAscii-push (hex_digits width (number / 16)) (hex_digit (number % 16)) (hex_digits-IsAscii width (number / 16)) (hex_digit-ascii (number % 16) (omega arith)))

pub hex_digits-IsUtf8 : (width number : ℕ) → IsUtf8 (hex_digits width number)
hex_digits-IsUtf8 width number = IsUtf8-from_ascii (hex_digits width number) (hex_digits-IsAscii width number)
