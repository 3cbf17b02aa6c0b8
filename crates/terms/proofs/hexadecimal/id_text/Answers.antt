use Rattle.terms.proofs.HexadecimalLemmas.{IsAscii-hex_digits}
use Rattle.terms.proofs.hexadecimal.id_text.Goals as goal

pub returns-clause-ascii : goal.returns-clause-ascii
returns-clause-ascii c = rw c.write_digits.ensures (IsAscii-hex_digits 32 c.args.id)
