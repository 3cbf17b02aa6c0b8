use Rattle.std.proofs.Common.{sym, subst}
use Rattle.journal.specs.Journal.{History}
use Rattle.journal.specs.Seal.{LeadsTo}
use Rattle.recovery.specs.PacketLog.{IsRun, number_of}
use Rattle.journal.specs.Log.{log, next}
use Rattle.journal.proofs.SealLemmas.{sealed, says-same}
use Rattle.hub_state.proofs.EndedLemmas.{hub-of, nobody-ended, plus}
use Rattle.hub_state.proofs.state.State.seal.Goals as goal

pub invariant_of-self : goal.invariant_of-self
invariant_of-self c =
    rw (c.replace-base.ensures.after, c.take-steps.ensures.none)
    (plus (sealed _ _ _ c.in_ok-present.present _ _ _ _ _ _ _ _ (hub-of c.self.inside c.self.invariant)
    (subst (λ (h : History). LeadsTo h.base h.limits h.journal c.in_ok-present.present) (sym c.self.view_is) c.in_ok-present.ensures.leads)
    (subst (λ (h : History). IsRun (number_of (next h.base h.journal)) (log h.base h.limits h.journal)) (sym c.self.view_is) c.in_ok-present.ensures.run))
    (nobody-ended _ _ c.clear.ensures.items))

pub returns : goal.returns
returns c = record {
  epoch_is = rw (← c.self.view_is) (search (c.replace-base.ensures.value, c.take-steps.ensures.steps));
  legal = rw (← c.self.view_is) c.self.invariant.1;
  sealed = search (c.self.view_is, c.replace-base.ensures.after, c.take-steps.ensures.none, c.in_ok-present.ensures.leads);
  same =
      rw (← c.self.view_is, c.replace-base.ensures.after, c.take-steps.ensures.none)
      (says-same _ _ _ c.in_ok-present.present c.self.invariant.2
      (subst (λ (h : History). LeadsTo h.base h.limits h.journal c.in_ok-present.present) (sym c.self.view_is) c.in_ok-present.ensures.leads));
}
