use Rattle.std.proofs.Common.{[], ◌∷◌, take, get_or, sym, subst, arith}
use Rattle.std.proofs.lemmas.List.{take_more}
use Rattle.script.specs.Script.{WritesOn, plain_run}
use Rattle.script.proofs.ScriptLemmas.{writes_further}
use Rattle.script.proofs.run.answer_lines.Goals as goal

pub loop-byte-preserved : goal.loop-byte-preserved
loop-byte-preserved g c =
    let policy = g.A.App.policy c.args.app.now in
    let contents = g.W.Write.contents in
    let before = c.loop-byte.invariant in
    let read = take c.loop-byte.byte-index c.args.bytes.now in
    let byte = get_or c.args.bytes.now c.loop-byte.byte-index 0 in
    record {
      unended = λ whole. c.in_ok-answer_byte.ensures.unended (before.unended whole);
      written = λ whole.
          subst (λ bytes. WritesOn policy (contents c.args.writer.now) (contents c.answer_byte.new.writer) (plain_run c.args.run.now) c.args.line.now.items bytes c.answer_byte.new.line.items (plain_run c.answer_byte.new.run))
          (sym (take_more c.args.bytes.now c.loop-byte.byte-index 0 (omega arith)))
          (writes_further policy (contents c.args.writer.now) (contents c.loop-byte.writer) (contents c.answer_byte.new.writer)
          (plain_run c.args.run.now) (plain_run c.loop-byte.run) (plain_run c.answer_byte.new.run)
          c.args.line.now.items read c.loop-byte.line.items (byte ∷ []) c.answer_byte.new.line.items
          (before.written whole) (c.in_ok-answer_byte.ensures.answered (before.unended whole)));
    }
