-- Two histories that say the same still do so after one more step, which is allowed by both or by neither.
use Rattle.std.proofs.Common.{◌≡◌, ℕ, ◌≤◌, max, List, ◌∷◌, refl, sym, ◌∙◌, subst, arith, None}
use Rattle.journal.specs.declared.step.Step.{Step}
use Rattle.journal.specs.declared.step.What.{What}
use Rattle.journal.specs.Plain.{PlainBase, Limits}
use Rattle.journal.specs.Journal.{History, history, moment, moment_at, with_step}
use Rattle.journal.specs.Totals.{is_spent}
use Rattle.journal.specs.Command.{own_refusal}
use Rattle.journal.specs.Legal.{IsAllowed, IsLegal, IsSound}
use Rattle.journal.specs.Seal.{SaysTheSame, IsLegalAndSound, MayFollow}
use Rattle.journal.proofs.HubLemmas.{legal-step}
use Rattle.journal.proofs.CountsLemmas.{unrefused}
use Rattle.journal.proofs.EpochsSocketsLemmas.{open-after, sockets-after, by_sid-after, by_pid-after, rooms-after, sessions-after}
use Rattle.journal.proofs.EpochsOutboxesLemmas.{waits-after, totals-after, log-after, next-after}
use Rattle.journal.proofs.EpochsRefusalsLemmas.{refusal-same, ends-open, opens-new, allowed-back}
use Rattle.journal.proofs.EpochsSoundLemmas.{sound-after}

says-same-turned : (g h : History) → SaysTheSame g h → SaysTheSame h g
says-same-turned g h same = record {
  same_limits = sym same.same_limits;
  same_moment = sym same.same_moment;
  same_open = λ c. sym (same.same_open c);
  same_sockets = λ c. sym (same.same_sockets c);
  same_by_sid = λ s. sym (same.same_by_sid s);
  same_by_pid = λ p. sym (same.same_by_pid p);
  same_waiting = λ c known. sym (same.same_waiting c (sym (same.same_open c) ∙ known));
  same_rooms = sym same.same_rooms;
  same_sessions = sym same.same_sessions;
  same_log = sym same.same_log;
  same_next = sym same.same_next;
  same_totals = sym same.same_totals;
}

pub says-same-onward : (g h k : History) → SaysTheSame g h → SaysTheSame h k → SaysTheSame g k
says-same-onward g h k first second = record {
  same_limits = second.same_limits ∙ first.same_limits;
  same_moment = second.same_moment ∙ first.same_moment;
  same_open = λ c. second.same_open c ∙ first.same_open c;
  same_sockets = λ c. second.same_sockets c ∙ first.same_sockets c;
  same_by_sid = λ s. second.same_by_sid s ∙ first.same_by_sid s;
  same_by_pid = λ p. second.same_by_pid p ∙ first.same_by_pid p;
  same_waiting = λ c known. second.same_waiting c (first.same_open c ∙ known) ∙ first.same_waiting c known;
  same_rooms = second.same_rooms ∙ first.same_rooms;
  same_sessions = second.same_sessions ∙ first.same_sessions;
  same_log = second.same_log ∙ first.same_log;
  same_next = second.same_next ∙ first.same_next;
  same_totals = second.same_totals ∙ first.same_totals;
}

module _ (limits : Limits) (base base' : PlainBase) (before before' : List Step) (legal : IsLegal base limits before) (sound : IsSound base limits before) (legal' : IsLegal base' limits before') (sound' : IsSound base' limits before')
    (same : SaysTheSame (history base limits before) (history base' limits before')) (at : ℕ) (what : What) (allowed : IsAllowed base' limits before' (record { at = at; what = what }) what) where
  abbrev step : Step
  step = record { at = at; what = what }

  free : own_refusal (history base limits before) at what ≡ None
  free = unrefused (own_refusal (history base limits before) at what) (is_spent base limits before what) (sym allowed.0 ∙ refusal-same limits base base' before before' sound sound' same at what)

  allowed-too : IsAllowed base limits before step what
  allowed-too = allowed-back limits base base' before before' sound sound' same at what free allowed

  same-after : SaysTheSame (history base limits (step ∷ before)) (history base' limits (step ∷ before'))
  unfolding moment
  same-after = record {
    same_limits = refl;
    same_moment = refl;
    same_open = open-after limits base base' before before' sound sound' same step;
    same_sockets = sockets-after limits base base' before before' sound sound' same step;
    same_by_sid = by_sid-after limits base base' before before' sound sound' same step;
    same_by_pid = by_pid-after limits base base' before before' sound sound' same step;
    same_waiting = waits-after limits base base' before before' sound sound' same legal legal' step;
    same_rooms = rooms-after limits base base' before before' sound sound' same step;
    same_sessions = sessions-after limits base base' before before' sound sound' same step;
    same_log = log-after limits base base' before before' sound sound' same at what;
    same_next = next-after limits base base' before before' sound sound' same at what allowed.1;
    same_totals = totals-after limits base base' before before' sound sound' same legal legal' step
        (ends-open base limits before at what free) (opens-new base limits before at what free);
  }

module _ (g h : History) (now : ℕ) (what : What) (fine : IsLegalAndSound g) where
  -- at the moment of the one history the step stands in both
  with-limits : IsLegalAndSound (history h.base g.limits h.journal) → SaysTheSame g (history h.base g.limits h.journal) → MayFollow (history h.base g.limits h.journal) now what
      → MayFollow g now what × SaysTheSame (with_step g now what) (with_step (history h.base g.limits h.journal) now what)
  with-limits fine' same allowed =
      let here : IsAllowed h.base g.limits h.journal (record { at = max now (moment g.base g.journal); what = what }) what =
      subst (λ at. IsAllowed h.base g.limits h.journal (record { at = max now at; what = what }) what) same.same_moment allowed in (
        allowed-too g.limits g.base h.base g.journal h.journal fine.0 fine.1 fine'.0 fine'.1 same (max now (moment g.base g.journal)) what here,
        subst (λ at. SaysTheSame (with_step g now what) (history h.base g.limits (record { at = max now at; what = what } ∷ h.journal))) (sym same.same_moment)
            (same-after g.limits g.base h.base g.journal h.journal fine.0 fine.1 fine'.0 fine'.1 same (max now (moment g.base g.journal)) what here),
      )

  pub composes-back : IsLegalAndSound h → SaysTheSame g h → MayFollow h now what → MayFollow g now what × SaysTheSame (with_step g now what) (with_step h now what)
  composes-back fine' same =
      subst (λ l. IsLegalAndSound (history h.base l h.journal) → SaysTheSame g (history h.base l h.journal) → MayFollow (history h.base l h.journal) now what
      → MayFollow g now what × SaysTheSame (with_step g now what) (with_step (history h.base l h.journal) now what)) (sym same.same_limits) with-limits fine' same

pub composes-forth : (g h : History) (now : ℕ) (what : What) → IsLegalAndSound g → IsLegalAndSound h → SaysTheSame g h → MayFollow g now what → MayFollow h now what × SaysTheSame (with_step g now what) (with_step h now what)
composes-forth g h now what fine fine' same allowed =
    let turned = composes-back h g now what fine' fine (says-same-turned g h same) allowed in
    (turned.0, says-same-turned (with_step h now what) (with_step g now what) turned.1)

pub sound-back : (g h : History) (now : ℕ) (what : What) → IsLegalAndSound g → IsLegalAndSound h → SaysTheSame g h → MayFollow h now what → IsLegalAndSound (with_step h now what) → IsLegalAndSound (with_step g now what)
sound-back g h now what fine fine' same allowed later =
    let at = moment_at g now in
    let late : moment g.base g.journal ≤ at = omega arith in
    let both = composes-back g h now what fine fine' same allowed in
    let free = unrefused (own_refusal g at what) (is_spent g.base g.limits g.journal what) (sym both.0.0) in
    let steps = History.journal (with_step h now what) in
    let there : IsSound h.base g.limits steps × SaysTheSame (with_step g now what) (history h.base g.limits steps) =
    subst (λ l. IsSound h.base l steps × SaysTheSame (with_step g now what) (history h.base l steps)) same.same_limits (later.1, both.1) in (
      legal-step g.base g.limits (record { at = at; what = what }) g.journal both.0 late fine.0,
      sound-after g.limits g.base h.base g.journal steps fine.1 fine.0 at late what both.0 (opens-new g.base g.limits g.journal at what free) there.0 there.1,
    )
