use Rattle.script.proofs.ScriptLineLemmas.{split_word, no_split_word}
use Rattle.script.proofs.script_line.word_and_rest_after.Goals as goal

pub returns-clause-some : goal.returns-clause-some
returns-clause-some c = split_word c.args.word.now c.args.text.now c.in_ok-rest_after.field-0.now c.split_once.result c.in_ok-rest_after.ensures.some c.split_once.ensures.cases

pub returns-clause-none : goal.returns-clause-none
returns-clause-none c = no_split_word c.args.word.now c.args.text.now c.in_ok-rest_after.field-0.now c.split_once.result c.in_ok-rest_after.ensures.some c.split_once.ensures.cases
