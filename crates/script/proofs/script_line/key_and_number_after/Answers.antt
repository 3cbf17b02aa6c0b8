use Rattle.script.proofs.ScriptLineLemmas.{no_key, no_key_number}
use Rattle.script.proofs.script_line.key_and_number_after.Goals as goal

pub returns-in_err-read_key-clause-none : goal.returns-in_err-read_key-clause-none
returns-in_err-read_key-clause-none c = rw c.from_residual-in_err-read_key.ensures
    (no_key c.args.word.now c.args.text.now c.in_ok-key.key.now c.in_ok-key.digits.now c.in_ok-key.ensures.some c.in_err-read_key.ensures.none)

pub returns-in_err-read_number-clause-none : goal.returns-in_err-read_number-clause-none
returns-in_err-read_number-clause-none c = rw c.from_residual-in_err-read_number.ensures
    (no_key_number c.args.word.now c.args.text.now c.in_ok-key.key.now c.in_ok-key.digits.now c.in_ok-key.ensures.some c.in_err-read_number.ensures.none)
