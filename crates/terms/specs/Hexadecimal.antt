-- Numbers as lower-case hexadecimal digits of a fixed width.
use Rattle.std.specs.Prelude.{ℕ, zero, suc, ◌+◌, ◌/◌, ◌%◌, cond, nat_lt, List, [], ◌∷◌, ◌++◌}

-- the character of a digit: 0 to 9, then a to f
abbrev pub hex_digit : ℕ → ℕ
hex_digit digit = cond (nat_lt digit 10) (digit + 48) (digit + 87)

-- the number as this many digits: those of a sixteenth of it, then its last one
unfoldable pub hex_digits : ℕ → ℕ → List ℕ
hex_digits zero number = []
hex_digits (suc width) number = hex_digits width (number / 16) ++ hex_digit (number % 16) ∷ []
