-- All epochs as one: what an event does there.
use Rattle.std.proofs.Common.{◌≡◌, ℕ, true, List, [], ◌∷◌, ◌++◌, refl, sym, ◌∙◌, ap, subst, is_some, append_assoc, Option, Some}
use Rattle.connection.specs.Line.{PlainLine}
use Rattle.journal.specs.declared.step.Step.{Step}
use Rattle.journal.specs.Journal.{History, history}
use Rattle.journal.specs.Membership.{is_open}
use Rattle.journal.specs.Seal.{PlainEpoch, SealsAs, IsLegalAndSound}
use Rattle.journal.proofs.EpochsLemmas.{says-same-onward}
use Rattle.events.specs.App.{Policy}
use Rattle.events.specs.declared.event.Event.{Event}
use Rattle.events.specs.Answer.{Answer}
use Rattle.epochs.specs.Epochs.{AreAlike, with_steps, in_one}
use Rattle.dispatch.specs.declared.clients.Handshake.{Handshake}
use Rattle.dispatch.specs.Machine.{Does, Machine}
use Rattle.dispatch.specs.Holding.{Standing, standing, holding, line_of, Agree}
use Rattle.dispatch.proofs.HearingLaws.{agrees-still}
use Rattle.epochs.proofs.EpochSteps.{says-same-turned, alike-turned, StaysSound}
use Rattle.epochs.proofs.EpochMachine.{does-alike}

-- ---- all epochs as one

-- a step of the present history is one of all
one-with : (sealed : List History) (steps : List Step) (h : History) → in_one sealed (with_steps steps h) ≡ with_steps steps (in_one sealed h)
one-with [] steps h = refl
one-with (g ∷ sealed) steps h =
    let whole = in_one sealed g in ap (λ (all : List Step). history whole.base whole.limits all) (append_assoc steps h.journal whole.journal)

pub first-alike : (h : History) → IsLegalAndSound h → AreAlike h h
first-alike h fine = record {
  first = fine;
  second = fine;
  same = record {
    same_limits = refl;
    same_moment = refl;
    same_open = λ c. refl;
    same_sockets = λ c. refl;
    same_by_sid = λ s. refl;
    same_by_pid = λ p. refl;
    same_waiting = λ c known. refl;
    same_rooms = refl;
    same_sessions = refl;
    same_log = refl;
    same_next = refl;
    same_totals = refl;
  };
}

pub sealed-alike : (sealed : List History) (g h : History) (epoch : PlainEpoch) → AreAlike g (in_one sealed g) → SealsAs g epoch h → IsLegalAndSound h → AreAlike h (in_one (g ∷ sealed) h)
sealed-alike sealed g h epoch alike seals fine =
    let whole = in_one sealed g in
    subst (λ (steps : List Step). AreAlike h (with_steps steps whole)) (sym seals.sealed.no_steps)
    (record { first = fine; second = alike.second; same = says-same-onward h g whole (says-same-turned g h seals.same) alike.same })

-- ---- an event

module _ (keeps : StaysSound) (policy : Policy) (now : ℕ) (told : Handshake) (event : Event) (answer : Answer)
    (sealed : List History) (old new : List (ℕ × PlainLine)) (ids left : ℕ → ℕ) where
  abbrev DoesAt : History → History → Type 0
  DoesAt h k = Does policy told now event (standing h old ids) answer (standing k new left)

  has-open : (h : History) → Agree h old → (c : ℕ) (line : PlainLine) → line_of old c ≡ Some line → is_open h.base h.journal c ≡ true
  has-open h agree c line is = sym (agree c) ∙ ap (λ (o : Option PlainLine). is_some o) is

  pub does-in-one : (h k : History) → AreAlike h (in_one sealed h) → Agree h old → DoesAt h k → DoesAt (in_one sealed h) (in_one sealed k) × AreAlike k (in_one sealed k) × Agree k new
  does-in-one h k alike agree does =
      let (m, grown, also) = does-alike keeps now (holding h old) (holding k new) (in_one sealed h) alike policy ids left (has-open h agree) told event answer does in
      let is : m ≡ in_one sealed k = grown.other ∙ sym (one-with sealed grown.steps h) ∙ ap (in_one sealed) (sym grown.one) in
      (subst (DoesAt (in_one sealed h)) is also, subst (AreAlike k) is grown.alike, agrees-still policy now h k old new agree ids left answer told event does)

  pub does-in-present : (h m : History) → AreAlike h (in_one sealed h) → Agree h old → DoesAt (in_one sealed h) m → (k : History) × (m ≡ in_one sealed k) × DoesAt h k
  does-in-present h m alike agree does =
      let whole = in_one sealed h in
      let (k, grown, also) = does-alike keeps now (holding whole old) (holding m new) h (alike-turned h whole alike) policy ids left
      (λ c line is. alike.same.same_open c ∙ has-open h agree c line is) told event answer does in
      (k, grown.one ∙ sym (one-with sealed grown.steps h) ∙ ap (in_one sealed) (sym grown.other), also)

-- ---- all events

-- one event more
machine-more : (policy : Policy) (told : Handshake) (now : ℕ) (event : Event) (answer : Answer)
    (events : List (Event × ℕ)) (answers : List Answer) (s m t : Standing)
    → Machine policy told events answers s m → Does policy told now event m answer t
    → Machine policy told (events ++ (event, now) ∷ []) (answers ++ answer ∷ []) s t
unfolding Machine
machine-more policy told now event answer [] [] s m t there does = (t, subst (λ (q : Standing). Does policy told now event q answer t) there does, refl)
machine-more policy told now event answer [] (a ∷ answers) s m t none does = absurd none
machine-more policy told now event answer (e ∷ events) [] s m t none does = absurd none
machine-more policy told now event answer (e ∷ events) (a ∷ answers) s m t (p, first, run) does =
    (p, first, machine-more policy told now event answer events answers p m t run does)

pub account-more : (keeps : StaysSound) (policy : Policy) (told : Handshake) (now : ℕ) (event : Event) (answer : Answer)
    (events : List (Event × ℕ)) (answers : List Answer) (s : Standing) (sealed : List History) (h k : History) (old new : List (ℕ × PlainLine)) (left rest : ℕ → ℕ)
    → AreAlike h (in_one sealed h) → Agree h old
    → Machine policy told events answers s (standing (in_one sealed h) old left) → Does policy told now event (standing h old left) answer (standing k new rest)
    → Machine policy told (events ++ (event, now) ∷ []) (answers ++ answer ∷ []) s (standing (in_one sealed k) new rest)
account-more keeps policy told now event answer events answers s sealed h k old new left rest alike agree run does =
    machine-more policy told now event answer events answers s (standing (in_one sealed h) old left) (standing (in_one sealed k) new rest) run
    (does-in-one keeps policy now told event answer sealed old new left rest h k alike agree does).0
