use Rattle.std.proofs.Common.{ℕ, [], List}
use Rattle.std.specs.Io.KnownBytes.{Consumes}
use Rattle.script.specs.Script.{IsUnended, Setting, WritesOn, plain_run}
use Rattle.script.proofs.run.serve.Given as goal

-- what was read was worked on
abbrev pub invariant-loop : goal.invariant-loop
invariant-loop g l =
    let contents = g.W.Write.contents in
    record {
      read : List ℕ;
      consumed : Consumes (g.R.Read.remaining l.fn.reader) (g.R.Read.remaining l.reader) read;
      unended : IsUnended l.line.items;
      written : WritesOn (g.A.App.policy l.app) (contents l.fn.writer) (contents l.writer) (Setting l.fn.limits) [] read l.line.items (plain_run l.run);
    }
