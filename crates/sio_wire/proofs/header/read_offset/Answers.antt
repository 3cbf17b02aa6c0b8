use Rattle.std.proofs.Common.{◌≡◌, Some, length, ap, sym, ◌∙◌}
use Rattle.terms.proofs.HexadecimalLemmas.{length-hex_digits, hex_digits-injective}
use Rattle.sio_wire.proofs.header.read_offset.Goals as goal

pub returns-then-text-ne16-clause-again : goal.returns-then-text-ne16-clause-again
returns-then-text-ne16-clause-again c offset fits is = absurd (c.if-text-ne16.true (ap length is ∙ length-hex_digits 16 offset))

pub returns-clause-again : goal.returns-clause-again
returns-clause-again c offset fits is =
    let long : length c.as_bytes.result.now ≡ 16 = ap length c.as_bytes.ensures.value ∙ c.if-text-ne16.false in
    let digits = rw long at c.in_ok-number.ensures.some in
    let small = rw long at c.in_ok-number.ensures.fits in
    ap Some (hex_digits-injective 16 c.in_ok-number.number offset small fits (sym digits ∙ (c.as_bytes.ensures.value ∙ is)))
