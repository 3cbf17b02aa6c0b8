use Rattle.std.proofs.Common.{rules}
use Rattle.script.specs.ScriptLine.{ReadsAs}
use Rattle.script.specs.declared.script_line.ScriptLine.TheVariants.{Bad}
use Rattle.script.proofs.ScriptLineLemmas.{none_spelled, is_heard}
use Rattle.script.proofs.script_line.read_line.Goals as goal

pub returns-in-None : goal.returns-in-None
returns-in-None c =
    let text = c.in-Ok.text.now in
    let bad : ReadsAs text Bad = none_spelled text (is_heard c.is_silent.result text c.is_silent.ensures c.if-is_silent.false) c.in_default-read_server_line.ensures.none c.in-None.ensures.none in
    search (rules, bad)
