-- The sixteen digits of ids, as sets: a bit for each.
use Rattle.std.specs.Prelude.{ℕ, ◌-◌, ◌/◌, ◌^◌, ◌&&◌, cond, nat_le, List, [], ◌∷◌, bit_or, fold}

-- the digits that one or another of these has
abbrev pub together : {A : Type 0} → (digits : A → ℕ) → List A → ℕ
together digits xs = fold (λ all x. bit_or all (digits x)) 0 xs

-- the first of an id's thirty-two digits
abbrev pub first_digit : (sid : ℕ) → ℕ
first_digit sid = 2 ^ (sid / 16 ^ 31)

-- the digit with this character, 0 to 9 or a to f, and none of another
abbrev pub digit_of : (character : ℕ) → ℕ
digit_of x =
    cond (nat_le 48 x && nat_le x 57) (2 ^ (x - 48)) (cond (nat_le 97 x && nat_le x 102) (2 ^ (x - 87)) 0)

-- the digit that is all of a room's name
abbrev pub named_digit : (room : List ℕ) → ℕ
named_digit (character ∷ []) = digit_of character
named_digit room = 0
