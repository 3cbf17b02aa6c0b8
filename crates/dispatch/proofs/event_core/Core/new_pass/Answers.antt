use Rattle.dispatch.proofs.ServerLemmas.{kept-history, core-history}
use Rattle.dispatch.proofs.event_core.Core.new_pass.Goals as goal

pub invariant_of-self : goal.invariant_of-self
invariant_of-self g c = kept-history c.self.inside.lines.entries c.self.inside.hub c.new_pass.new.self c.new_pass.ensures.kept c.self.invariant

pub returns : goal.returns
returns g c = rw (← c.self.view_is) (record {
  gives = c.new_pass.ensures.gives;
  kept = core-history (record { hub = c.self.inside.hub; lines = c.self.inside.lines.entries; told = c.self.inside.told }) c.self.inside.hub c.new_pass.new.self c.new_pass.ensures.kept;
})
