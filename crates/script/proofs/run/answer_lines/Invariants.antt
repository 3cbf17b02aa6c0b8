use Rattle.std.proofs.Common.{take}
use Rattle.script.specs.Script.{IsUnended, WritesOn, plain_run}
use Rattle.script.proofs.run.answer_lines.Given as goal

-- the bytes so far were worked on
abbrev pub invariant-loop-byte : goal.invariant-loop-byte
invariant-loop-byte g l =
    let contents = g.W.Write.contents in
    record {
      unended : IsUnended l.fn.line.items → IsUnended l.line.items;
      written : IsUnended l.fn.line.items → WritesOn (g.A.App.policy l.app) (contents l.fn.writer) (contents l.writer) (plain_run l.fn.run) l.fn.line.items (take l.byte-index l.bytes) l.line.items (plain_run l.run);
    }
