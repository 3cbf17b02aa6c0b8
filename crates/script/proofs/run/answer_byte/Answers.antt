use Rattle.std.proofs.Common.{[], ◌∷◌, sym, subst}
use Rattle.script.specs.Script.{IsUnended, WritesOn, plain_run}
use Rattle.script.proofs.ScriptLemmas.{both_ok, ends_line}
use Rattle.script.proofs.run.answer_byte.Goals as goal

pub returns-then-byte-eq10-clause-answered : goal.returns-then-byte-eq10-clause-answered
returns-then-byte-eq10-clause-answered g c =
    let policy = g.A.App.policy c.args.app.now in
    let before = g.W.Write.contents c.args.writer.now in
    let after = g.W.Write.contents c.answer_line.new.writer in
    let line = c.args.line.now.items in
    let s = plain_run c.args.run.now in
    let t = plain_run c.answer_line.new.run in
    both_ok {R = IsUnended line → WritesOn policy before after s line (c.args.byte ∷ []) c.answer_line.new.line.items t} c.answer_line.result
    (λ emptied answered unended. subst (λ left. WritesOn policy before after s line (c.args.byte ∷ []) left t) (sym emptied)
    (ends_line policy before after s t line c.args.byte c.if-byte-eq10.true unended answered))
    c.answer_line.ensures.emptied c.answer_line.ensures.answered
