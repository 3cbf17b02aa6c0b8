-- Which of its errors a call answers.
use Rattle.std.specs.Prelude.{Bool, cond, List, [], ◌∷◌, Option, None, Some, Result, Ok, Err}

module _ {E : Type 0} where
  -- the error of the first test that holds
  abbrev pub first_refusal : List (Bool × E) → Option E
  first_refusal [] = None
  first_refusal (test ∷ tests) = cond test.0 (Some test.1) (first_refusal tests)

  -- the answer of a call that can be refused for this reason alone
  abbrev pub ok_unless : Option E → Result (Unit {0}) E
  ok_unless None = Ok tt
  ok_unless (Some error) = Err error
