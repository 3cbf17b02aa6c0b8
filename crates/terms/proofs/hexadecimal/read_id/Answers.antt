use Rattle.std.proofs.Common.{◌∙◌, ap, length}
use Rattle.terms.proofs.HexadecimalLemmas.{length-hex_digits}
use Rattle.terms.proofs.hexadecimal.read_id.Goals as goal

pub returns-then-text-ne32-clause-none : goal.returns-then-text-ne32-clause-none
returns-then-text-ne32-clause-none c = λ id is.
    c.if-text-ne32.true (ap length is ∙ length-hex_digits 32 id)
