use Rattle.std.proofs.Common.{[]}
use Rattle.connection.proofs.LineLemmas.{opened}
use Rattle.connection.proofs.line.Line.open.Goals as goal

pub invariant_of-result : goal.invariant_of-result
invariant_of-result c = record { opening = _; calls = []; leads = opened _ c.new.result c.open.result c.new-2.result.entries c.new.ensures c.open.ensures c.new-2.ensures.empty }

pub returns : goal.returns
returns c = opened _ c.new.result c.open.result c.new-2.result.entries c.new.ensures c.open.ensures c.new-2.ensures.empty
