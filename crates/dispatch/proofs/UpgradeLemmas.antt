-- What a line's clock answers to a change of transport, by how the client speaks.
use Rattle.std.proofs.Common.{◌≡◌, ℕ, ◌==◌, Bool, true, false, List, [], ◌∷◌, inr, refl, sym, ◌∙◌, ap, subst, arith, Option, Some, Result, Ok, Err, OnOk, OnErr, IfErr}
use Rattle.std.specs.Prelude.{codes}
use Rattle.std.proofs.lemmas.Bool.Decides.{nat_tests}
use Rattle.terms.specs.Refusal.{ok_unless}
use Rattle.connection.specs.declared.clock.ClockError.{ClockError}
use Rattle.connection.specs.declared.clock.ClockError.TheVariants as clock
use Rattle.connection.specs.declared.clock.Transport.{Transport}
use Rattle.connection.specs.declared.clock.Transport.TheVariants.{Polling, Probing, Socket}
use Rattle.connection.specs.Upgrade.{transport, probe_refusal, unprobed_refusal}
use Rattle.connection.specs.History.{Call, Probed, clock_calls}
use Rattle.connection.specs.Line.{PlainLine, ForEachHistory, HasHistory, Advances}
use Rattle.journal.specs.Journal.{History}
use Rattle.events.specs.declared.outcome.Outcome.TheVariants as outcome
use Rattle.events.specs.Answer.{Answer, at_once}
use Rattle.dispatch.specs.Answers.{Refused, ForClient}
use Rattle.events.specs.Plain.{nothing_done}
use Rattle.dispatch.specs.Holding.{Holding, line_of, holding, KeepsOthers, KeepsLines}
use Rattle.dispatch.specs.Takes.{IsOn}
use Rattle.dispatch.specs.Upgrade.{fault_of_clock, ProbesOn, Probes, EndsProbeOn, EndsProbe}

-- how a clock answers
abbrev Said : Type 0
Said = Result (Unit {0}) ClockError

-- the answer tells the transport
abbrev Tells : (Transport → Option ClockError) → Type 0
Tells refusal = (on other : Transport) → ok_unless (refusal on) ≡ ok_unless (refusal other) → on ≡ other

tells-probe : Tells probe_refusal
tells-probe Polling Polling e = refl
tells-probe Polling Probing e = absurd (cc e)
tells-probe Polling Socket e = absurd (cc e)
tells-probe Probing Polling e = absurd (cc e)
tells-probe Probing Probing e = refl
tells-probe Probing Socket e = absurd (cc e)
tells-probe Socket Polling e = absurd (cc e)
tells-probe Socket Probing e = absurd (cc e)
tells-probe Socket Socket e = refl

tells-unprobed : Tells unprobed_refusal
tells-unprobed Polling Polling e = refl
tells-unprobed Polling Probing e = absurd (cc e)
tells-unprobed Polling Socket e = absurd (cc e)
tells-unprobed Probing Polling e = absurd (cc e)
tells-unprobed Probing Probing e = refl
tells-unprobed Probing Socket e = absurd (cc e)
tells-unprobed Socket Polling e = absurd (cc e)
tells-unprobed Socket Probing e = absurd (cc e)
tells-unprobed Socket Socket e = refl

module _ (refusal : Transport → Option ClockError) (tells : Tells refusal) (said : Said) (line : PlainLine) where
  -- the line has one transport, whichever calls led to it
  on-one : HasHistory line → ForEachHistory line (λ o h. said ≡ ok_unless (refusal (transport o (clock_calls h)))) → (on : Transport) × IsOn on line × (said ≡ ok_unless (refusal on))
  on-one reached answer =
      let on = transport reached.opening (clock_calls reached.calls) in
      let is = answer reached.opening reached.calls reached.leads in
      (on, (λ o h leads. tells on (transport o (clock_calls h)) (sym is ∙ answer o h leads)), is)

-- what comes of the clock's answer, where it is accepted and where it isn't
module _ (said : Said) (c : ℕ) (line : PlainLine) (s : Holding) (answer : Answer) (t : Holding) where
  probes-on : (on : Transport) → said ≡ ok_unless (probe_refusal on) → (said ≡ Ok tt → ProbesOn Polling c line s answer t)
      → ((e : ClockError) → said ≡ Err e → Refused (fault_of_clock e) s answer t) → ProbesOn on c line s answer t
  probes-on Polling is ok err = ok is
  probes-on Probing is ok err = err clock.AlreadyProbing is
  probes-on Socket is ok err = err clock.AlreadyUpgraded is

  pub probes : HasHistory line → ForEachHistory line (λ o h. said ≡ ok_unless (probe_refusal (transport o (clock_calls h)))) → (said ≡ Ok tt → ProbesOn Polling c line s answer t)
      → ((e : ClockError) → said ≡ Err e → Refused (fault_of_clock e) s answer t) → Probes c line s answer t
  probes reached from ok err =
      let one = on-one probe_refusal tells-probe said line reached from in
      inr (one.0, one.1, probes-on one.0 one.2 ok err)

  ends-on : (end : Call) (on : Transport) → said ≡ ok_unless (unprobed_refusal on) → (said ≡ Ok tt → EndsProbeOn Probing end c line s answer t)
      → ((e : ClockError) → said ≡ Err e → Refused (fault_of_clock e) s answer t) → EndsProbeOn on end c line s answer t
  ends-on end Polling is ok err = err clock.NotProbing is
  ends-on end Probing is ok err = ok is
  ends-on end Socket is ok err = err clock.AlreadyUpgraded is

  pub ends-probe : (end : Call) → HasHistory line → ForEachHistory line (λ o h. said ≡ ok_unless (unprobed_refusal (transport o (clock_calls h)))) → (said ≡ Ok tt → EndsProbeOn Probing end c line s answer t)
      → ((e : ClockError) → said ≡ Err e → Refused (fault_of_clock e) s answer t) → EndsProbe end c line s answer t
  ends-probe end reached from ok err =
      let one = on-one unprobed_refusal tells-unprobed said line reached from in
      (one.0, one.1, ends-on end one.0 one.2 ok err)

-- the refusal by its name
named : (e f : ClockError) → ◌≡◌ {A = Said} (Err e) (Err f) → ◌≡◌ {A = Answer} (Err (at_once (fault_of_clock e))) (Err (at_once (fault_of_clock f)))
named e f is = let same : e ≡ f = cc is in ap (λ (x : ClockError). Err (at_once (fault_of_clock x))) same

-- ---- the row of an event, from what its line and its answer are

same-lines : (c : ℕ) (h : History) (old new : List (ℕ × PlainLine)) (line after : PlainLine) → line_of old c ≡ Some line → line_of new c ≡ Some after → KeepsOthers c (holding h old) (holding h new)
    → after ≡ line → KeepsLines (holding h old) (holding h new)
same-lines c h old new line after known has others same d = on (c == d) refl
  where
    on : (b : Bool) → (c == d) ≡ b → line_of new d ≡ line_of old d
    on true is = let one : c ≡ d = grind (arith, nat_tests, is) in subst (λ (e : ℕ). line_of new e ≡ line_of old e) one (has ∙ ap Some same ∙ sym known)
    on false is = others d is

module _ (c : ℕ) (h : History) (old new : List (ℕ × PlainLine)) (line after : PlainLine) (answer : Answer)
    (known : line_of old c ≡ Some line) (has : line_of new c ≡ Some after) (others : KeepsOthers c (holding h old) (holding h new)) where
  pub probes-for : (text : List ℕ) → text ≡ codes "3probe" → (said : Said) → HasHistory line → ForEachHistory line (λ o h. said ≡ ok_unless (probe_refusal (transport o (clock_calls h))))
      → OnOk said (Advances line (Probed ∷ []) after) → OnErr said (after ≡ line)
      → OnOk said (answer ≡ Ok (outcome.Probed text)) → IfErr said (λ e. answer ≡ Err (at_once (fault_of_clock e)))
      → ForClient c (Probes c) (holding h old) answer (holding h new)
  probes-for text pong (Ok x) reached from advances same ok err =
      rw (known, ForClient) (probes (Ok x) c line (holding h old) answer (holding h new) reached from (λ is. (ok ∙ ap (λ (x : List ℕ). Ok (outcome.Probed x)) pong, (refl, (rw has advances, others)))) (λ e is. absurd (cc is)))
  probes-for text pong (Err e) reached from advances same ok err =
      rw (known, ForClient) (probes (Err e) c line (holding h old) answer (holding h new) reached from (λ is. absurd (cc is)) (λ f is. (err ∙ named e f is, refl, same-lines c h old new line after known has others same)))

  pub ends-for : (end : Call) (said : Said) → HasHistory line → ForEachHistory line (λ o h. said ≡ ok_unless (unprobed_refusal (transport o (clock_calls h))))
      → OnOk said (Advances line (end ∷ []) after) → OnErr said (after ≡ line)
      → OnOk said (answer ≡ Ok (outcome.Done nothing_done)) → IfErr said (λ e. answer ≡ Err (at_once (fault_of_clock e)))
      → ForClient c (EndsProbe end c) (holding h old) answer (holding h new)
  ends-for end (Ok x) reached from advances same ok err =
      rw (known, ForClient) (ends-probe (Ok x) c line (holding h old) answer (holding h new) end reached from (λ is. (ok, (refl, (rw has advances, others)))) (λ e is. absurd (cc is)))
  ends-for end (Err e) reached from advances same ok err =
      rw (known, ForClient) (ends-probe (Err e) c line (holding h old) answer (holding h new) end reached from (λ is. absurd (cc is)) (λ f is. (err ∙ named e f is, refl, same-lines c h old new line after known has others same)))
