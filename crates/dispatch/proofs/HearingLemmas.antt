-- What the app's events where sockets have ended leave as it was.
use Rattle.std.proofs.Common.{◌≡◌, ℕ, ◌&&◌, ◌||◌, Bool, true, false, List, [], ◌∷◌, refl, sym, ◌∙◌, subst, take, append-nil, Result, Ok, Err, inl, inr}
use Rattle.std.specs.List.{AllByRecursion}
use Rattle.eio_wire.specs.Payload.{IsWhole}
use Rattle.journal.specs.declared.step.Step.{Step}
use Rattle.journal.specs.declared.step.What.TheVariants as what
use Rattle.journal.specs.Journal.{History, moment_at}
use Rattle.journal.specs.Membership.{is_open}
use Rattle.journal.proofs.EpochsSocketsLemmas.{is_open-step}
use Rattle.hub_state.specs.EndedSockets.{PlainEnded, ended_sockets}
use Rattle.events.specs.declared.app.Effect.{Effect}
use Rattle.events.specs.declared.app.Effect.TheVariants.{Emit}
use Rattle.events.specs.declared.fault.CoreFault.{CoreFault}
use Rattle.events.specs.declared.fault.CoreFault.TheVariants.{BadEffect}
use Rattle.events.specs.App.{Policy, IsCleanEffect}
use Rattle.journal.specs.Plain.{PlainCast}
use Rattle.events.specs.Plain.{PlainDone}
use Rattle.dispatch.specs.Hearing.{Sends, HearsOf, HearsOfAll}
use Rattle.dispatch.specs.Effects.{is_bad_emission}
use Rattle.dispatch.specs.Following.{is_work, is_turn, Follows, Spares}
use Rattle.dispatch.specs.Runs.{RunsOrFails}
use Rattle.dispatch.specs.Broadcasting.{Work, Broadcasts, BroadcastsOrFails}
use Rattle.dispatch.proofs.CleanLemmas.{clean-cast}
use Rattle.dispatch.proofs.RunsLemmas.{all-at, all-take, run-keeps}
use Rattle.dispatch.proofs.StepLemmas.{follows-on, spares-cast, spares-others}

-- what each keeps, whether it fails or not, all keep
or-fails-keeps : {S A E : Type 0} (R : S → A → Result (Unit {0}) E → S → Type 0) (P : A → Type 0) (K : S → Type 0) → ((s t : S) (x : A) (r : Result (Unit {0}) E) → P x → K s → R s x r t → K t)
    → (xs : List A) (s t : S) (r : Result (Unit {0}) E) → AllByRecursion P xs → K s → RunsOrFails R xs s r t → K t
or-fails-keeps R P K keeps xs s t (Ok x) all was run = run-keeps (λ a x b. R a x (Ok tt) b) P K (λ a b x p k step. keeps a b x (Ok tt) p k step) xs s t all was run
or-fails-keeps R P K keeps xs s t (Err e) all was (done, (at, run, x, is, fails)) =
    keeps at t x (Err e) (all-at P xs done x is all)
    (run-keeps (λ a x b. R a x (Ok tt) b) P K (λ a b x p k step. keeps a b x (Ok tt) p k step) (take done xs) s at (all-take P done xs all) was run) fails

module _ (policy : Policy) (c now : ℕ) where
  -- what an event that is sent keeps
  module _ (K : Work → Type 0) (says : (e : PlainCast) (s t : Work) → IsWhole e.payload → Broadcasts c e now s t → K s → K t) where
    says-keeps : (e : PlainCast) (s t : Work) (r : Result (Unit {0}) CoreFault) → IsWhole e.payload → BroadcastsOrFails c e now s r t → K s → K t
    says-keeps e s t (Ok x) clean does was = says e s t clean does was
    says-keeps e s t (Err fault) clean fails was = subst K (sym fails.1) was

    emit-keeps : (e : PlainCast) (s t : Work) (r : Result (Unit {0}) CoreFault) → IsWhole e.payload → K s → Sends c now s (Emit e) r t → K t
    emit-keeps e s t r clean was does = by (is_bad_emission s.history.limits e) does
      where
        by : (b : Bool) → elim b as (λ (b : Bool). Type 0) [ true ↦ (r ≡ Err BadEffect) × (t ≡ s) | false ↦ BroadcastsOrFails c e now s r t ] → K t
        by true refused = subst K (sym refused.1) was
        by false does = says-keeps e s t r clean does was

    sends-keeps : (s t : Work) (effect : Effect) (r : Result (Unit {0}) CoreFault) → IsCleanEffect effect → K s → Sends c now s effect r t → K t
    sends-keeps s t (Emit e) r clean was does = emit-keeps e s t r clean was does
    sends-keeps s t _ r clean was refused = subst K (sym refused.1) was

    pub hears-keeps : (s t : Work) (gone : PlainEnded) (r : Result (Unit {0}) CoreFault) → Unit {0} → K s → HearsOf policy c now s gone r t → K t
    hears-keeps s t gone r any was (inl short) = subst K (sym short.1) was
    hears-keeps s t gone r any was (inr (effects, wants, clean, run)) =
        or-fails-keeps (Sends c now) IsCleanEffect K (λ a b effect r fine k does. sends-keeps a b effect r fine k does) effects s t r clean was run

    any-gone : (ended : List PlainEnded) → AllByRecursion (λ (gone : PlainEnded). Unit {0}) ended
    any-gone [] = tt
    any-gone (gone ∷ ended) = (tt, any-gone ended)

    pub heard-keeps : (ended : List PlainEnded) (s t : Work) (r : Result (Unit {0}) CoreFault) → K s → HearsOfAll policy c now ended s r t → K t
    heard-keeps ended s t r was run = or-fails-keeps (HearsOf policy c now) (λ gone. Unit {0}) K hears-keeps ended s t r (any-gone ended) was run

  -- ---- who is open

  abbrev pub OpenAs : History → Work → Type 0
  OpenAs m s = (d : ℕ) → is_open s.history.base s.history.journal d ≡ is_open m.base m.journal d

  as-before : (b : Bool) → ((b && true) || false) ≡ b
  as-before true = refl
  as-before false = refl

  says-open : (m : History) (e : PlainCast) (s t : Work) → Broadcasts c e now s t → OpenAs m s → OpenAs m t
  says-open m e s t (allowed, done, cast, told) was d =
      let h = s.history in
      let step : Step = record { at = moment_at h now; what = what.Cast cast.b } in
      rw cast.step (is_open-step h.base step h.journal d ∙ as-before (is_open h.base h.journal d)) ∙ was d

  pub heard-open : (m : History) (ended : List PlainEnded) (s t : Work) (r : Result (Unit {0}) CoreFault) → OpenAs m s → HearsOfAll policy c now ended s r t → OpenAs m t
  heard-open m = heard-keeps (OpenAs m) (λ e s t clean does was. says-open m e s t does was)

  -- ---- which steps

  pub record Onward (f m : History) (s : Work) : Type 0 where
    pub work : Follows (is_work c) m s.history
    pub turn : Follows (is_turn c) f s.history
    pub names : AllByRecursion IsWhole s.history.limits.spaces

  says-onward : (f m : History) (e : PlainCast) (s t : Work) → IsWhole e.payload → Broadcasts c e now s t → Onward f m s → Onward f m t
  says-onward f m e s t clean (allowed, done, cast, told) was =
      let good = clean-cast s.history e cast.b cast.asked allowed was.names clean in
      record {
        work = follows-on (is_work c) now (what.Cast cast.b) m s.history t.history was.work cast.step refl (good, tt);
        turn = follows-on (is_turn c) now (what.Cast cast.b) f s.history t.history was.turn cast.step refl (good, tt);
        names = subst (λ (h : History). AllByRecursion IsWhole h.limits.spaces) (sym cast.step) was.names;
      }

  pub heard-onward : (f m : History) (ended : List PlainEnded) (s t : Work) (r : Result (Unit {0}) CoreFault) → Onward f m s → HearsOfAll policy c now ended s r t → Onward f m t
  heard-onward f m = heard-keeps (Onward f m) (says-onward f m)

  -- ---- for whom something is put

  says-spares : (f : History) (e : PlainCast) (s t : Work) → Broadcasts c e now s t → Spares c f s.history s.done.clients → Spares c f t.history t.done.clients
  says-spares f e s t (allowed, done, cast, told) was =
      subst (λ (d : PlainDone). Spares c f t.history d.clients) (sym told)
      (spares-others c f t.history done.clients s.done.clients (spares-cast c now e done s.history t.history cast f s.done.clients was))

  pub heard-spares : (f : History) (ended : List PlainEnded) (s t : Work) (r : Result (Unit {0}) CoreFault) → Spares c f s.history s.done.clients → HearsOfAll policy c now ended s r t → Spares c f t.history t.done.clients
  heard-spares f = heard-keeps (λ s. Spares c f s.history s.done.clients) (λ e s t clean does was. says-spares f e s t does was)

  -- ---- what an event that is sent leaves

  says-ended_sockets : (D : List PlainEnded) (e : PlainCast) (s t : Work) → Broadcasts c e now s t → ended_sockets s.history.base s.history.journal ≡ D → ended_sockets t.history.base t.history.journal ≡ D
  unfolding ended_sockets
  says-ended_sockets D e s t (allowed, done, cast, told) was =
      rw cast.step (append-nil (ended_sockets s.history.base s.history.journal)) ∙ was

  pub heard-ended_sockets : (D : List PlainEnded) (s t : Work) (gone : PlainEnded) (r : Result (Unit {0}) CoreFault) → ended_sockets s.history.base s.history.journal ≡ D → HearsOf policy c now s gone r t
      → ended_sockets t.history.base t.history.journal ≡ D
  heard-ended_sockets D s t gone r was heard =
      hears-keeps (λ s. ended_sockets s.history.base s.history.journal ≡ D) (λ e s t clean does was. says-ended_sockets D e s t does was) s t gone r tt was heard
