use Rattle.dispatch.proofs.HandedLemmas.{handed-sealed}
use Rattle.dispatch.proofs.ServerLemmas.{kept-sealed, core-parts}
use Rattle.dispatch.proofs.event_core.Core.seal.Goals as goal

pub invariant_of-self : goal.invariant_of-self
invariant_of-self g c = kept-sealed c.seal.result c.self.inside.lines.entries c.self.inside.hub.history c.seal.new.self.history c.seal.ensures.seals c.self.invariant

pub returns : goal.returns
returns g c = rw (← c.self.view_is) (record {
  seals = c.seal.ensures.seals;
  handed = handed-sealed c.seal.result c.self.inside.hub.history c.seal.new.self.history c.seal.ensures.seals;
  kept = core-parts (record { hub = c.self.inside.hub; lines = c.self.inside.lines.entries; told = c.self.inside.told }) c.self.inside.hub c.seal.new.self c.seal.ensures.parts;
})
