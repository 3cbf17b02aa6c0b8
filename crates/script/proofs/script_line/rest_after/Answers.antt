use Rattle.std.proofs.Common.{◌≡◌, ◌++◌, arith, rules}
use Rattle.std.proofs.lemmas.Str.Pattern.{strip_prefix_char}
use Rattle.script.proofs.ScriptLineLemmas.{no_rest_after}
use Rattle.script.proofs.script_line.rest_after.Goals as goal

pub returns-clause-none : goal.returns-clause-none
returns-clause-none c =
    let parts : c.args.text.now ≡ c.args.word.now ++ c.in_ok-strip_prefix.field-0.now = search rules in
    no_rest_after c.args.word.now c.args.text.now c.in_ok-strip_prefix.field-0.now c.strip_prefix-2.result parts
    (strip_prefix_char 32 c.in_ok-strip_prefix.field-0.now c.strip_prefix-2.result c.strip_prefix-2.ensures.cases (omega arith))
