use Rattle.std.proofs.Common.{◌≡◌, length, inl, inr, ap, arith, rules}
use Rattle.std.proofs.lemmas.List.{length-reverse}
use Rattle.hub_gate.specs.Facts.{IsLong}
use Rattle.hub_gate.proofs.FactsLemmas.{of-core}
use Rattle.hub_gate.proofs.worker.Locked.seal.Goals as goal
use Rattle.hub_gate.proofs.worker.Locked.seal.Goals.{then-steps-least+then-held-bytes, else-steps-least+in-Ok, else-steps-least+in-Err, else-steps-least-via-then-steps-least+else-held-bytes, else-steps-least-via-else-steps-least}

pub returns-clause-epoch : goal.returns-clause-epoch
returns-clause-epoch g c = elim c.if-steps-least.branch [
  | then-steps-least+then-held-bytes w ↦ rw w.got-is tt
  | else-steps-least+in-Ok w ↦
      let same : c.deref.result.now.hub.history ≡ w.deref_mut.result.now.hub.history = search rules in
      let shows : c.state-state.result.now ≡ w.deref_mut.result.now.hub.history = search rules in
      let long : IsLong c.args.least c.args.bytes c.state-state.result.now = elim w.else-steps-least.branch [
        | else-steps-least-via-then-steps-least+else-held-bytes v ↦ inr (omega (arith, v.if-held-bytes.false, v.held.ensures))
        | else-steps-least-via-else-steps-least v ↦ inl (omega (arith, v.if-steps-least.false, ap length c.steps.ensures, length-reverse c.state-state.result.now.journal))
      ] in
      rw w.got-is (of-core c.args.least c.args.bytes _ _ _ _ same shows c.note_facts.ensures.kept long w.in-Ok.ensures.seals.epoch_is)
  | else-steps-least+in-Err w ↦ rw w.got-is tt
]
