use Rattle.connection.specs.History.{Upgraded}
use Rattle.connection.proofs.LineLemmas.{turned, upgraded}
use Rattle.connection.proofs.line.Line.upgrade.Goals as goal

pub invariant_of-self : goal.invariant_of-self
invariant_of-self c = turned _ Upgraded c.upgrade.result c.upgrade.new.self _ (upgraded _ c.upgrade.new.self) c.upgrade.ensures.leads c.upgrade.ensures.unchanged c.self.invariant
