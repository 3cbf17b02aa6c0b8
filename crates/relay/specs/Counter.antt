-- Numbers that count up.
use Rattle.std.specs.Prelude.{ℕ, ◌+◌, ◌-◌, ◌^◌, min}

-- the numbers of a counter whose next one is known: it stays at the greatest u128
abbrev pub counted_from : ℕ → ℕ → ℕ
counted_from next k = min (next + k) (2 ^ 128 - 1)
