use Rattle.std.proofs.Common.{◌≡◌, ◌-◌, ◌++◌, drop, arith, sym, ap, ◌∙◌, length-set}
use Rattle.terms.specs.Hexadecimal.{hex_digits}
use Rattle.terms.proofs.HexadecimalLemmas.{one_digit_less, hex_digits-zero}
use Rattle.terms.proofs.hexadecimal.write_digits.Goals as goal

pub digits-preserved : goal.digits-preserved
digits-preserved c =
    let i = c.digits.invariant in
    record {
      within = omega arith;
      long = length-set c.digits.text (c.digits.at - 1) c.hex_digit.result ∙ i.long;
      written = one_digit_less c.digits.at (c.digits.at - 1) c.digits.rest c.hex_digit.result c.digits.text _ (omega arith) (omega arith) c.hex_digit.ensures i.written;
    }

pub returns : goal.returns
returns c =
    let none : c.digits.at ≡ 0 = omega arith in
    sym (ap (λ t. t ++ drop 0 c.digits.text) (hex_digits-zero c.digits.rest))
    ∙ ap (λ k. hex_digits k c.digits.rest ++ drop k c.digits.text) (sym none)
    ∙ c.digits.invariant.written
