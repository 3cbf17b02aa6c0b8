-- How large a number of seconds may become.
use Rattle.std.proofs.Common.{ℕ, ◌+◌, ◌*◌, ◌^◌, ◌<◌, ◌≤◌, arith, lit<}
use Rattle.std.proofs.Math.Nat.{pow-le-pow_right, lt_of_lt_of_le}

below_tenfold : (n digit bound : ℕ) → digit < 10 → n < bound → n * 10 + digit < bound * 10
below_tenfold n digit bound d small = omega arith

-- one digit more fits, where there are fewer than fifteen
pub one_digit_more : (width n digit : ℕ) → digit < 10 → width < 15 → n < 10 ^ width → n * 10 + digit < 2 ^ 64
one_digit_more width n digit d w small =
    let at_most : width ≤ 14 = omega arith in
    let below : n < 10 ^ 14 = lt_of_lt_of_le small (pow-le-pow_right {n = 10} (lit< tt) at_most) in
    let more : n * 10 + digit < 10 ^ 14 * 10 = below_tenfold n digit (10 ^ 14) d below in
    omega (arith, more)
