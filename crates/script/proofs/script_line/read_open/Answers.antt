use Rattle.script.proofs.ScriptLineLemmas.{no_open}
use Rattle.script.proofs.script_line.read_open.Goals as goal

pub returns-in_default-2-clause-none : goal.returns-in_default-2-clause-none
returns-in_default-2-clause-none c =
    no_open c.args.text.now c.in_ok-name.field-0.0.now c.in_ok-name.field-0.1.now c.in_default.ensures.none c.in_ok-name.ensures.some
    c.in_default-2.not-socket-1
