use Rattle.std.proofs.Common.{ap}
use Rattle.hub_totals.specs.Pass.{PlainHub}
use Rattle.dispatch.proofs.ServerLemmas.{kept-history, core-same}
use Rattle.dispatch.proofs.event_core.Core.settle.Goals as goal

pub invariant_of-self : goal.invariant_of-self
invariant_of-self g c = kept-history c.self.inside.lines.entries c.self.inside.hub c.settle.new.self (ap (λ (h : PlainHub). h.history) c.settle.ensures.same.0) c.self.invariant

pub returns : goal.returns
returns g c = rw (← c.self.view_is) (record {
  same = (core-same (record { hub = c.self.inside.hub; lines = c.self.inside.lines.entries; told = c.self.inside.told }) c.self.inside.hub c.settle.new.self c.settle.ensures.same.0, c.settle.ensures.same.1);
  settles = c.settle.ensures.settles;
  whole = c.settle.ensures.whole;
})
