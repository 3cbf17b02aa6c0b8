use Rattle.connection.specs.History.{ProbeLost}
use Rattle.connection.proofs.LineLemmas.{turned, probe-lost}
use Rattle.connection.proofs.line.Line.probe_lost.Goals as goal

pub invariant_of-self : goal.invariant_of-self
invariant_of-self c = turned _ ProbeLost c.probe_lost.result c.probe_lost.new.self _ (probe-lost _ c.probe_lost.new.self) c.probe_lost.ensures.leads c.probe_lost.ensures.unchanged c.self.invariant
