use Rattle.std.proofs.Common.{None, Some}
use Rattle.script.proofs.ScriptLineLemmas.{cut_after_name, no_name}
use Rattle.script.proofs.script_line.name_and_rest_after.Goals as goal

pub returns-in_err-name-clause-none : goal.returns-in_err-name-clause-none
returns-in_err-name-clause-none c = rw c.from_residual-in_err-name.ensures (λ name rest is_name e.
    cut_after_name c.args.word.now c.args.text.now c.in_ok-rest_after.field-0.now name rest None
    c.in_ok-rest_after.ensures.some c.in_err-name.ensures.cases is_name e)

pub returns-else-is_name-clause-none : goal.returns-else-is_name-clause-none
returns-else-is_name-clause-none c = λ name rest is_name e.
    let cut = cut_after_name c.args.word.now c.args.text.now c.in_ok-rest_after.field-0.now name rest (Some (c.in_ok-name.name, c.in_ok-name.rest))
    c.in_ok-rest_after.ensures.some c.in_ok-name.ensures.cases is_name e in
    no_name c.is_name.result c.in_ok-name.name.now name c.is_name.ensures c.if-is_name.false cut.0 is_name
