use Rattle.terms.proofs.hexadecimal.ids_differ.Goals as goal

pub returns : goal.returns
returns c = λ m n few less same. c.digits_differ.ensures 32 m n few less same
