-- What an Option keeps of a Result.
use Rattle.std.proofs.Common.{Result, Ok, Err, IfOk, IfSome}
use Rattle.std.specs.Result.{result_ok}

-- what follows from a fact of the value at `Ok` is one of the value at `Some`
pub kept : {F E : Type 0} (P Q : F → Type 0) (r : Result F E) → ((f : F) → P f → Q f) → IfOk r P → IfSome (result_ok r) Q
kept P Q (Ok f) follows known = follows f known
kept P Q (Err e) follows known = tt
