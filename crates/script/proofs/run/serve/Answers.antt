use Rattle.std.proofs.Common.{◌≡◌, [], ◌++◌, length, refl, rules}
use Rattle.std.proofs.KnownBytes.{Consumes-trans}
use Rattle.std.specs.Io.KnownBytes.{IsAtEnd}
use Rattle.script.specs.Script.{Setting, plain_run}
use Rattle.script.proofs.ScriptLemmas.{consumes_nothing, writes_kept, writes_further, writes_all}
use Rattle.script.proofs.run.serve.Goals as goal

pub returns-then-is_empty-clause-answered : goal.returns-then-is_empty-clause-answered
returns-then-is_empty-clause-answered g c =
    let policy = g.A.App.policy c.args.app.now in
    let contents = g.W.Write.contents in
    let remaining = g.R.Read.remaining in
    let before = c.loop.invariant in
    let none : length c.in-Some.bytes.now ≡ 0 = search rules in
    let end : IsAtEnd (g.R.Read.remaining c.read_some.new.reader) = search rules in
    let got = rw c.in-Some.is at c.in_ok-bytes.ensures.got in
    let consumed = consumes_nothing (remaining c.args.reader.now) (remaining c.loop.reader) (remaining c.read_some.new.reader) before.read c.in-Some.bytes.now before.consumed got none in
    let flushed = writes_kept policy (contents c.args.writer.now) (contents c.loop.writer) (contents c.flush.new.writer) (Setting c.args.limits) (plain_run c.loop.run)
    [] before.read c.loop.line.items before.written c.in_ok-flush.ensures.kept in
    writes_all policy c.args.limits (remaining c.args.reader.now) (remaining c.read_some.new.reader)
    (contents c.args.writer.now) (contents c.flush.new.writer) (contents c.answer_line.new.writer) (contents c.flush-then-is_empty.new.writer)
    (Setting c.args.limits) (plain_run c.loop.run) (plain_run c.answer_line.new.run) before.read c.loop.line.items
    refl consumed end flushed before.unended c.in_ok-answer_line.ensures.answered c.in_ok-flush-2.ensures.kept

pub loop-preserved : goal.loop-preserved
loop-preserved g c =
    let policy = g.A.App.policy c.args.app.now in
    let contents = g.W.Write.contents in
    let remaining = g.R.Read.remaining in
    let before = c.loop.invariant in
    let bytes = c.in-Some.bytes.now in
    let got = rw c.in-Some.is at c.in_ok-bytes.ensures.got in
    let flushed = writes_kept policy (contents c.args.writer.now) (contents c.loop.writer) (contents c.flush.new.writer) (Setting c.args.limits) (plain_run c.loop.run)
    [] before.read c.loop.line.items before.written c.in_ok-flush.ensures.kept in
    record {
      read = before.read ++ bytes;
      consumed = Consumes-trans (remaining c.args.reader.now) (remaining c.loop.reader) (remaining c.read_some.new.reader) before.read bytes before.consumed got;
      unended = c.in_ok-answer_lines.ensures.unended before.unended;
      written = writes_further policy (contents c.args.writer.now) (contents c.flush.new.writer) (contents c.answer_lines.new.writer)
          (Setting c.args.limits) (plain_run c.loop.run) (plain_run c.answer_lines.new.run) [] before.read c.loop.line.items bytes c.answer_lines.new.line.items
          flushed (c.in_ok-answer_lines.ensures.answered before.unended);
    }
