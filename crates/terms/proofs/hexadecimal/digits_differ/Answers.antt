use Rattle.terms.proofs.HexadecimalLemmas.{hex_digits-injective}
use Rattle.terms.proofs.hexadecimal.digits_differ.Goals as goal

pub returns : goal.returns
returns _ = hex_digits-injective
