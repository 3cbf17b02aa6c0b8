-- A session id as text: 32 lower-case hexadecimal digits.
use Rattle.std.specs.Prelude.{ℕ, List}
use Rattle.terms.specs.Hexadecimal.{hex_digits}

-- the digits of an id
abbrev pub id_digits : ℕ → List ℕ
id_digits id = hex_digits 32 id
