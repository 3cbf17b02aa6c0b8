-- What the app does of sockets that ended, after two histories that say the same.
use Rattle.std.proofs.Common.{◌≡◌, ◌⊎◌, ℕ, Bool, true, false, List, refl, sym, ap, subst, Option, None, Some, Result, Ok, Err, inl, inr}
use Rattle.journal.specs.Plain.{Limits}
use Rattle.journal.specs.Journal.{History}
use Rattle.hub_state.specs.EndedSockets.{PlainEnded}
use Rattle.events.specs.declared.app.Effect.{Effect}
use Rattle.events.specs.declared.app.Effect.TheVariants.{Emit}
use Rattle.events.specs.declared.fault.CoreFault.{CoreFault}
use Rattle.events.specs.declared.fault.CoreFault.TheVariants.{Memory, BadEffect}
use Rattle.events.specs.Answer.{Answer}
use Rattle.events.specs.App.{Policy, AllClean}
use Rattle.journal.specs.Plain.{PlainCast}
use Rattle.events.specs.Plain.{PlainDone}
use Rattle.dispatch.specs.Hearing.{who_of, Sends, HearsOf, HearsOfAll}
use Rattle.dispatch.specs.Effects.{is_bad_emission}
use Rattle.dispatch.specs.Runs.{RunsOrFails}
use Rattle.dispatch.specs.Broadcasting.{Work, work, BroadcastsOrFails}
use Rattle.epochs.specs.Epochs.{AreAlike}
use Rattle.dispatch.specs.Hearing.{done_before, Hears, HearsAfter}
use Rattle.epochs.proofs.EpochSteps.{Grown, grown-none, StaysSound}
use Rattle.epochs.proofs.EpochCasts.{turned, SimWork, says-alike, cannot-say}
use Rattle.epochs.proofs.EpochEffects.{runs-or-fails-alike}
use Rattle.epochs.proofs.EpochTakes.{SimBoth}

-- ---- what it sends then

same-work : (s t : Work) (g : History) → AreAlike s.history g → t ≡ s → Grown s.history t.history g g
same-work s t g alike is = grown-none s.history t.history g alike (ap (λ (u : Work). u.history) is)

module _ (keeps : StaysSound) (c now : ℕ) where
  says-or-fails : (e : PlainCast) (s : Work) (r : Result (Unit {0}) CoreFault) (t : Work) (g : History) → AreAlike s.history g → BroadcastsOrFails c e now s r t → SimWork (λ a b. BroadcastsOrFails c e now a r b) s t g
  says-or-fails e s (Ok x) t g alike says = says-alike keeps c e now s t g alike says
  says-or-fails e s (Err fault) t g alike (cannot, is) = (g, same-work s t g alike is, (cannot-say e s.history g alike fault cannot, ap (λ (u : Work). turned u g) is))

  -- the row of an event, by whether it can be sent
  abbrev SendsIf : Bool → PlainCast → Result (Unit {0}) CoreFault → Work → Work → Type 0
  SendsIf bad e r a b = elim bad as (λ (bad : Bool). Type 0) [ true ↦ (r ≡ Err BadEffect) × (b ≡ a) | false ↦ BroadcastsOrFails c e now a r b ]

  emit-alike : (e : PlainCast) (s : Work) (r : Result (Unit {0}) CoreFault) (t : Work) (g : History) → AreAlike s.history g → Sends c now s (Emit e) r t → SimWork (λ a b. Sends c now a (Emit e) r b) s t g
  emit-alike e s r t g alike does =
      subst (λ (l : Limits). (m : History) × Grown s.history t.history g m × SendsIf (is_bad_emission l e) e r (turned s g) (turned t m)) (sym alike.same.same_limits)
      (on (is_bad_emission s.history.limits e) does)
    where
      on : (bad : Bool) → SendsIf bad e r s t → (m : History) × Grown s.history t.history g m × SendsIf bad e r (turned s g) (turned t m)
      on true (is, same) = (g, same-work s t g alike same, (is, ap (λ (u : Work). turned u g) same))
      on false does = says-or-fails e s r t g alike does

  sends-alike : (s : Work) (effect : Effect) (r : Result (Unit {0}) CoreFault) (t : Work) (g : History) → AreAlike s.history g → Sends c now s effect r t → SimWork (λ a b. Sends c now a effect r b) s t g
  sends-alike s (Emit e) r t g alike does = emit-alike e s r t g alike does
  sends-alike s _ r t g alike (is, same) = (g, same-work s t g alike same, (is, ap (λ (u : Work). turned u g) same))

  -- ---- what it hears

  module _ (policy : Policy) where
    -- the row of a socket that ended, by the limits, which name its namespace
    abbrev HearsBy : Limits → PlainEnded → Result (Unit {0}) CoreFault → Work → Work → Type 0
    HearsBy limits gone r a b =
        ((r ≡ Err Memory) × (b ≡ a))
        ⊎ ((effects : List Effect) × policy.ends (who_of limits gone.socket) gone.rooms gone.ending effects × AllClean effects × RunsOrFails (Sends c now) effects a r b)

    hears-of : (s : Work) (gone : PlainEnded) (r : Result (Unit {0}) CoreFault) (t : Work) (g : History) → AreAlike s.history g → HearsOf policy c now s gone r t → SimWork (λ a b. HearsOf policy c now a gone r b) s t g
    hears-of s gone r t g alike does =
        subst (λ (l : Limits). (m : History) × Grown s.history t.history g m × HearsBy l gone r (turned s g) (turned t m)) (sym alike.same.same_limits) (on does)
      where
        on : HearsBy s.history.limits gone r s t → (m : History) × Grown s.history t.history g m × HearsBy s.history.limits gone r (turned s g) (turned t m)
        on (inl (is, same)) = (g, same-work s t g alike same, inl (is, ap (λ (u : Work). turned u g) same))
        on (inr (effects, wants, clean, run)) =
            let (m, grown, also) = runs-or-fails-alike (λ (u : Work). u.history) turned (Sends c now) sends-alike effects s r t g alike run in
            (m, grown, inr (effects, wants, clean, also))

    pub hears-of-all : (ended : List PlainEnded) (s : Work) (r : Result (Unit {0}) CoreFault) (t : Work) (g : History) → AreAlike s.history g → HearsOfAll policy c now ended s r t → SimWork (λ a b. HearsOfAll policy c now ended a r b) s t g
    hears-of-all ended s r t g alike run = runs-or-fails-alike (λ (u : Work). u.history) turned (HearsOf policy c now) hears-of ended s r t g alike run

-- ---- after an event

module _ (keeps : StaysSound) (policy : Policy) (now : ℕ) (ended : List PlainEnded) (h k g : History) (alike : AreAlike h g) (said answer : Answer) where
  -- the app hears of none
  abbrev HearsNone : History → History → Type 0
  HearsNone a b = (answer ≡ said) × (b ≡ a)

  none-alike : HearsNone h k → SimBoth HearsNone h k g
  none-alike (is, same) = (g, grown-none h k g alike same, (is, refl))

  heard-alike : (c : ℕ) (before : PlainDone) → Hears policy c now ended h said answer k before → SimBoth (λ a b. Hears policy c now ended a said answer b before) h k g
  heard-alike c before (r, after, run, is) =
      let (m, grown, also) = hears-of-all keeps c now policy ended (work h before) r (work k after) g alike run in
      (m, grown, (r, after, also, is))

  -- by what was done before
  abbrev HearsFrom : ℕ → Option PlainDone → History → History → Type 0
  HearsFrom c o a b = elim o as (λ (o : Option PlainDone). Type 0) [ None ↦ HearsNone a b | Some before ↦ Hears policy c now ended a said answer b before ]

  pub after-alike : (o : Option ℕ) → HearsAfter policy now o ended h said answer k → SimBoth (λ a b. HearsAfter policy now o ended a said answer b) h k g
  after-alike None none = none-alike none
  after-alike (Some c) heard = on (done_before said) heard
    where
      on : (o : Option PlainDone) → HearsFrom c o h k → (m : History) × Grown h k g m × HearsFrom c o g m
      on None none = none-alike none
      on (Some before) hears = heard-alike c before hears
