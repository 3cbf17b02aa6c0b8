use Rattle.script.proofs.ScriptLineLemmas.{no_number_after}
use Rattle.script.proofs.script_line.number_after.Goals as goal

pub returns-clause-none : goal.returns-clause-none
returns-clause-none c = no_number_after c.args.word.now c.args.text.now c.in_ok-rest_after.field-0.now c.read_number.result c.in_ok-rest_after.ensures.some c.read_number.ensures.none
