-- Steps that are taken only where none before was refused.
use Rattle.std.specs.Prelude.{Result, Ok, Err, Option, Some, None}
use Rattle.tokens.specs.declared.verifier.Flaw.{Flaw}

-- the next step is taken only where there was no flaw before it
infixl 10 ◌>>=◌
abbrev pub ◌>>=◌ : {A B : Type 0} → Result A Flaw → (A → Result B Flaw) → Result B Flaw
(Ok x) >>= f = f x
(Err e) >>= f = Err e

-- what a contract sees of a value, if there is one
abbrev pub seen_by : {A B : Type 0} → (A → B) → Result A Flaw → Result B Flaw
seen_by view (Ok x) = Ok (view x)
seen_by view (Err e) = Err e
