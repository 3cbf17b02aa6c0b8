use Rattle.std.proofs.Common.{◌≡◌, sym, ◌∙◌}
use Rattle.script.proofs.ScriptLineLemmas.{rest_after_same, no_name}
use Rattle.script.proofs.script_line.name_after.Goals as goal

pub returns-else-is_name-clause-none : goal.returns-else-is_name-clause-none
returns-else-is_name-clause-none c = λ name is_name e.
    let same : c.in_ok-name.name.now ≡ name = rest_after_same c.args.word.now c.in_ok-name.name.now name (sym c.in_ok-name.ensures.some ∙ e) in
    no_name c.is_name.result c.in_ok-name.name.now name c.is_name.ensures c.if-is_name.false same is_name
