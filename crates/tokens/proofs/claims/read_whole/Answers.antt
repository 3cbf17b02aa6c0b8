use Rattle.std.proofs.Common.{◌<◌, ◌+◌, ◌*◌, ◌^◌, lit<, arith}
use Rattle.tokens.proofs.DatesLemmas.{one_digit_more}
use Rattle.tokens.proofs.claims.read_whole.Goals as goal

pub overflow_mul-seconds : goal.overflow_mul-seconds
overflow_mul-seconds c =
    let l = c.loop-digit in
    let fits : l.seconds * 10 + 0 < 2 ^ 64 = one_digit_more l.digit-index l.seconds 0 (lit< tt) (omega arith) l.invariant.fits in
    omega arith

pub overflow_add-seconds : goal.overflow_add-seconds
overflow_add-seconds c =
    let l = c.loop-digit in
    let small : c.from.result < 10 = omega (arith, c.from.ensures, c.if-not-is_ascii_digit.ensures.cases) in
    let fits : l.seconds * 10 + c.from.result < 2 ^ 64 = one_digit_more l.digit-index l.seconds c.from.result small (omega arith) l.invariant.fits in
    omega arith
