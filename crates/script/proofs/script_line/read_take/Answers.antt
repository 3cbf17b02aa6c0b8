use Rattle.script.proofs.ScriptLineLemmas.{no_take, not_positive}
use Rattle.script.proofs.script_line.read_take.Goals as goal

pub returns-in_err-most-clause-none : goal.returns-in_err-most-clause-none
returns-in_err-most-clause-none c = rw c.from_residual-in_err-most.ensures
    (no_take c.args.text.now c.in_ok-name.name.now c.in_ok-name.digits.now c.in_default.ensures.none c.in_ok-name.ensures.some (λ number positive. c.in_err-most.ensures.none number))

pub returns-in-0-clause-none : goal.returns-in-0-clause-none
returns-in-0-clause-none c =
    no_take c.args.text.now c.in_ok-name.name.now c.in_ok-name.digits.now c.in_default.ensures.none c.in_ok-name.ensures.some
    (λ number positive. not_positive c.in_ok-name.digits.now c.in_ok-most.most number c.in-0.is c.in_ok-most.ensures.some positive)
