use Rattle.std.proofs.Common.{◌≡◌, ◌<◌, ◌*◌, ◌+◌, ◌^◌, sym, ap, ◌∙◌, lit<, take, length, get_or, ◌++◌, [], ◌∷◌, arith, add-one}
use Rattle.std.proofs.Math.Seq.{take-suc}
use Rattle.terms.specs.Hexadecimal.{hex_digits, hex_digit}
use Rattle.terms.proofs.HexadecimalLemmas.{hex_digits-zero, one_digit_more, fits_one_more, fits_128_bits, digit_at}
use Rattle.terms.proofs.hexadecimal.read_digits.Goals as goal

pub loop-character-init : goal.loop-character-init
loop-character-init c = record { fits = lit< tt; read = sym (hex_digits-zero 0) }

pub overflow_mul-number : goal.overflow_mul-number
overflow_mul-number c =
    let fits : c.loop-character.number * 16 + 0 < 2 ^ 128 = fits_128_bits c.loop-character.character-index c.loop-character.number 0 (lit< tt) (omega arith) c.loop-character.invariant.fits in
    omega arith

pub overflow_add-number : goal.overflow_add-number
overflow_add-number c =
    let small : c.from.result < 16 = omega (arith, c.from.ensures, c.in_ok-digit_of.ensures.fits) in
    let fits : c.loop-character.number * 16 + c.from.result < 2 ^ 128 = fits_128_bits c.loop-character.character-index c.loop-character.number c.from.result small (omega arith) c.loop-character.invariant.fits in
    omega arith

pub loop-character-preserved : goal.loop-character-preserved
loop-character-preserved c =
    let l = c.loop-character in
    let small : c.from.result < 16 = omega (arith, c.from.ensures, c.in_ok-digit_of.ensures.fits) in
    let character : get_or c.args.text.now l.character-index 0 ≡ hex_digit c.from.result = c.in_ok-digit_of.ensures.some ∙ ap hex_digit (sym c.from.ensures) in
    record {
      fits = fits_one_more l.character-index l.number c.from.result small l.invariant.fits;
      read = ap (λ k. take k c.args.text.now) (add-one l.character-index)
          ∙ take-suc c.args.text.now l.character-index 0 c.loop-character-test.true
          ∙ ap (λ t. t ++ get_or c.args.text.now l.character-index 0 ∷ []) l.invariant.read
          ∙ ap (λ x. hex_digits l.character-index l.number ++ x ∷ []) character
          ∙ sym (one_digit_more l.character-index l.number c.from.result small);
    }

pub returns-in_err-digit_of-clause-none : goal.returns-in_err-digit_of-clause-none
returns-in_err-digit_of-clause-none c =
    let l = c.loop-character in
    rw c.from_residual.ensures (λ number same.
    let digit = digit_at (length c.args.text.now) number l.character-index c.loop-character-test.true in
    c.in_err-digit_of.ensures.none digit.0 digit.1.0 (ap (λ t. get_or t l.character-index 0) same ∙ digit.1.1))
