use Rattle.std.proofs.Common.{◌∙◌, ap}
use Rattle.hub_totals.specs.Pass.{PlainHub}
use Rattle.hub_gate.proofs.FactsLemmas.{kept-shown}
use Rattle.hub_gate.proofs.worker.note_facts.Goals as goal

pub returns : goal.returns
returns g c = record {
  kept = kept-shown c.args.core.now.hub.history c.state.result.now c.mirrors_of-maps.result.0.now c.mirrors_of-maps.result.1.now
      (c.state.ensures ∙ ap (λ (hub : PlainHub). hub.history) c.hub.ensures)
      c.facts-2.ensures.legal c.facts-2.ensures.casts c.facts-2.ensures.sound c.mirrors_of-maps.ensures;
  lines = c.facts.ensures.agree;
  clean = c.facts.ensures.clean;
}
