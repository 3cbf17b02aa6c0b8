-- One more step of two histories that say the same.
use Rattle.std.proofs.Common.{◌≡◌, ℕ, max, List, [], ◌∷◌, ◌++◌, refl, sym, ◌∙◌, ap, subst, append_assoc}
use Rattle.journal.specs.declared.step.Step.{Step}
use Rattle.journal.specs.declared.step.What.{What}
use Rattle.journal.specs.Plain.{PlainBase, Limits}
use Rattle.journal.specs.Journal.{History, history, moment_at, with_step}
use Rattle.journal.specs.Command.{refusal}
use Rattle.journal.specs.Seal.{SaysTheSame, IsLegalAndSound, MayFollow}
use Rattle.journal.proofs.EpochsLemmas.{composes-forth}
use Rattle.journal.proofs.EpochsRefusalsLemmas.{refusal-same}
use Rattle.dispatch.specs.Hearing.{ended_since}
use Rattle.epochs.specs.Epochs.{AreAlike, with_steps}
use Rattle.epochs.proofs.EpochEnded.{sockets_ended_in, ended_sockets-both, since-steps, ended_sockets-alike}

pub says-same-turned : (g h : History) → SaysTheSame g h → SaysTheSame h g
says-same-turned g h same = record {
  same_limits = sym same.same_limits;
  same_moment = sym same.same_moment;
  same_open = λ c. sym (same.same_open c);
  same_sockets = λ c. sym (same.same_sockets c);
  same_by_sid = λ s. sym (same.same_by_sid s);
  same_by_pid = λ p. sym (same.same_by_pid p);
  same_waiting = λ c known. sym (same.same_waiting c (sym (same.same_open c) ∙ known));
  same_rooms = sym same.same_rooms;
  same_sessions = sym same.same_sessions;
  same_log = sym same.same_log;
  same_next = sym same.same_next;
  same_totals = sym same.same_totals;
}

pub alike-turned : (h g : History) → AreAlike h g → AreAlike g h
alike-turned h g alike = record { first = alike.second; second = alike.first; same = says-same-turned h g alike.same }

-- what is so of each history with the limits of the one is so of the other
pub with-limits : (P : History → Type 0) (h g : History) → AreAlike h g → ((base : PlainBase) (journal : List Step) → AreAlike h (history base h.limits journal) → P (history base h.limits journal)) → P g
with-limits P h g alike each =
    subst (λ (l : Limits). AreAlike h (history g.base l g.journal) → P (history g.base l g.journal)) (sym alike.same.same_limits) (each g.base g.journal) alike

-- ---- one more step

pub moment-alike : (h g : History) → AreAlike h g → (now : ℕ) → moment_at g now ≡ moment_at h now
moment-alike h g alike now = ap (max now) alike.same.same_moment

refusal-at : (h g : History) → AreAlike h g → (at : ℕ) (w : What) → refusal g at w ≡ refusal h at w
refusal-at h g alike at w =
    with-limits (λ k. refusal k at w ≡ refusal h at w) h g alike (λ base journal a. refusal-same h.limits h.base base h.journal journal a.first.1 a.second.1 a.same at w)

pub refusal-alike : (h g : History) → AreAlike h g → (now : ℕ) (w : What) → refusal g (moment_at g now) w ≡ refusal h (moment_at h now) w
refusal-alike h g alike now w = ap (λ (at : ℕ). refusal g at w) (moment-alike h g alike now) ∙ refusal-at h g alike (moment_at h now) w

-- the same steps lead from two histories that say the same to two that do so too, and end the same sockets
pub record Grown (h k g m : History) : Type 0 where
  pub steps : List Step
  pub one : k ≡ with_steps steps h
  pub other : m ≡ with_steps steps g
  pub alike : AreAlike k m
  pub gone : sockets_ended_in g.base g.journal steps ≡ sockets_ended_in h.base h.journal steps

pub grown-none : (h k g : History) → AreAlike h g → k ≡ h → Grown h k g g
grown-none h k g alike is = record { steps = []; one = is; other = refl; alike = subst (λ (j : History). AreAlike j g) (sym is) alike; gone = refl }

pub grown-on : (h k l g m n : History) → Grown h k g m → Grown k l m n → Grown h l g n
grown-on h k l g m n first next = record {
  steps = next.steps ++ first.steps;
  one = next.one ∙ ap (with_steps next.steps) first.one ∙ ap (λ (steps : List Step). history h.base h.limits steps) (sym (append_assoc next.steps first.steps h.journal));
  other = next.other ∙ ap (with_steps next.steps) first.other ∙ ap (λ (steps : List Step). history g.base g.limits steps) (sym (append_assoc next.steps first.steps g.journal));
  alike = next.alike;
  gone =
      ended_sockets-both g.base g.journal first.steps next.steps
      ∙ (λ i. first.gone i ++ later i)
      ∙ sym (ended_sockets-both h.base h.journal first.steps next.steps);
}
  where
    later : sockets_ended_in g.base (first.steps ++ g.journal) next.steps ≡ sockets_ended_in h.base (first.steps ++ h.journal) next.steps
    later =
        ap (λ (j : History). sockets_ended_in j.base j.journal next.steps) (sym first.other)
        ∙ next.gone
        ∙ ap (λ (j : History). sockets_ended_in j.base j.journal next.steps) first.one

-- the same sockets ended on the way
pub ended-alike : (h k g m : History) → Grown h k g m → ended_since g m ≡ ended_since h k
ended-alike h k g m grown = since-steps g m grown.steps grown.other ∙ grown.gone ∙ sym (since-steps h k grown.steps grown.one)

-- where a hub may have a history, it may have what an allowed step makes of it
abbrev pub StaysSound : Type 0
StaysSound = (h : History) (now : ℕ) (w : What) → IsLegalAndSound h → MayFollow h now w → IsLegalAndSound (with_step h now w)

module _ (keeps : StaysSound) where
  step-alike : (h g : History) → AreAlike h g → (now : ℕ) (w : What) → MayFollow h now w → AreAlike (with_step h now w) (with_step g now w)
  step-alike h g alike now w may =
      let forth = composes-forth h g now w alike.first alike.second alike.same may in
      record { first = keeps h now w alike.first may; second = keeps g now w alike.second forth.0; same = forth.1 }

  pub grown-step : (h g k : History) → AreAlike h g → (now : ℕ) (w : What) → MayFollow h now w → k ≡ with_step h now w → Grown h k g (with_step g now w)
  grown-step h g k alike now w may is = record {
    steps = record { at = moment_at h now; what = w } ∷ [];
    one = is;
    other = ap (λ (at : ℕ). history g.base g.limits (record { at = at; what = w } ∷ g.journal)) (moment-alike h g alike now);
    alike = subst (λ (j : History). AreAlike j (with_step g now w)) (sym is) (step-alike h g alike now w may);
    gone = ended_sockets-alike h g alike w;
  }
