use Rattle.connection.specs.History.{Probed}
use Rattle.connection.proofs.LineLemmas.{turned, probed}
use Rattle.connection.proofs.line.Line.probe.Goals as goal

pub invariant_of-self : goal.invariant_of-self
invariant_of-self c = turned _ Probed c.probe.result c.probe.new.self _ (probed _ c.probe.new.self) c.probe.ensures.leads c.probe.ensures.unchanged c.self.invariant
