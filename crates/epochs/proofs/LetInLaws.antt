-- Who is there was let in.
use Rattle.std.proofs.Common.{◌≡◌, ℕ, List, [], ◌∷◌, ◌++◌, refl, sym, ◌∙◌, ap, subst, append_assoc, append-nil, Contains, None, Some}
use Rattle.std.specs.List.{AllByRecursion}
use Rattle.std.proofs.lemmas.List.Elements.{All-weaker, All-contains_itself, All-contains, All-from_recursion, recursion_from_All, Contains-append_left, Contains-append_right, Contains-push}
use Rattle.connection.specs.Line.{PlainLine}
use Rattle.journal.specs.declared.socket.Socket.{Socket}
use Rattle.journal.specs.declared.step.Step.{Step}
use Rattle.journal.specs.declared.step.What.{What}
use Rattle.journal.specs.declared.step.What.TheVariants.{Attached}
use Rattle.journal.specs.Config.{empty_base}
use Rattle.journal.specs.Plain.{Limits, PlainBase}
use Rattle.journal.proofs.SealListsLemmas.{all-append, all-to}
use Rattle.journal.specs.Journal.{History, history, moment_at, with_step}
use Rattle.journal.specs.Membership.{place_of, sockets}
use Rattle.events.specs.declared.event.Event.{Event}
use Rattle.events.specs.Answer.{Answer}
use Rattle.events.specs.App.{Policy}
use Rattle.dispatch.specs.Commands.{seat}
use Rattle.dispatch.specs.declared.clients.Handshake.{Handshake}
use Rattle.dispatch.specs.Machine.{Does, Machine}
use Rattle.dispatch.specs.Holding.{Standing, standing, new_core}
use Rattle.dispatch.specs.Packets.{socket_in}
use Rattle.epochs.specs.Epochs.{AreAlike, in_one, with_steps}
use Rattle.epochs.specs.LetIn.{Brings, IsLetInBy, IsLetIn, attaches, attached, AttachesOnly, HaveHistories, Everyone, WasLetIn}
use Rattle.epochs.proofs.ThereLemmas.{Connected, Saved, all-there, alike-there}
use Rattle.epochs.proofs.LetInMachine.{does-keeps}
use Rattle.epochs.proofs.LetInPackets.{KeptWhenLetIn}

-- ---- steps that attach such sockets alone

pub attaches-none : (Is : Socket → Type 0) (h : History) → AttachesOnly Is h h
attaches-none Is h = record { steps = []; goes = refl; each = tt }

-- one step more
attaches-step : (Is : Socket → Type 0) (f h k : History) (now : ℕ) (w : What) → AllByRecursion Is (attaches w) → k ≡ with_step h now w → AttachesOnly Is f h → AttachesOnly Is f k
attaches-step Is f h k now w new is was =
    let step : Step = record { at = moment_at h now; what = w } in
    record {
      steps = step ∷ was.steps;
      goes = is ∙ ap (λ (g : History). history g.base g.limits (step ∷ g.journal)) was.goes;
      each = all-append Is (attaches w) (attached was.steps) new was.each;
    }

attached-append : (later earlier : List Step) → attached (later ++ earlier) ≡ attached later ++ attached earlier
attached-append [] earlier = refl
attached-append (step ∷ later) earlier = ap (λ ks. attaches step.what ++ ks) (attached-append later earlier) ∙ sym (append_assoc (attaches step.what) (attached later) (attached earlier))

-- these steps after those
attaches-on : (Is : Socket → Type 0) (f g h : History) → AttachesOnly Is f g → AttachesOnly Is g h → AttachesOnly Is f h
attaches-on Is f g h first next = record {
  steps = next.steps ++ first.steps;
  goes = next.goes ∙ ap (with_steps next.steps) first.goes ∙ ap (λ (steps : List Step). history f.base f.limits steps) (sym (append_assoc next.steps first.steps f.journal));
  each = subst (AllByRecursion Is) (sym (attached-append next.steps first.steps)) (all-append Is (attached next.steps) (attached first.steps) next.each first.each);
}

attaches-weaker : (Is These : Socket → Type 0) → ((k : Socket) → Is k → These k) → (h k : History) → AttachesOnly Is h k → AttachesOnly These h k
attaches-weaker Is These each h k was = record { steps = was.steps; goes = was.goes; each = all-to Is These each (attached was.steps) was.each }

-- ---- an event

module _ (policy : Policy) (told : Handshake) where
  pub event-lets : (now : ℕ) (happened : Event) (answer : Answer) (s t : Standing) → HaveHistories s.core → Does policy told now happened s answer t
      → AttachesOnly (IsLetInBy policy s.core.history.limits (happened, now)) s.core.history t.core.history × HaveHistories t.core
  event-lets now happened answer s t lines does =
      does-keeps Goes (λ h k at w none is was. attaches-step Only f h k at w (subst (AllByRecursion Only) (sym none) tt) is was) policy happened now lets s.core t.core (attaches-none Only f, lines) told answer s.ids t.ids does
    where
      f : History
      f = s.core.history

      Only : Socket → Type 0
      Only = IsLetInBy policy f.limits (happened, now)

      Goes : History → Type 0
      Goes h = AttachesOnly Only f h

      lets : (c : ℕ) → KeptWhenLetIn Goes policy c now (Brings happened c)
      lets c h k space payload effects sid pid brings allowed is was =
          let place : place_of f.limits space ≡ place_of h.limits space = ap (λ (g : History). place_of g.limits space) (sym was.goes) in
          attaches-step Only f h k now (Attached (seat (socket_in c space sid) pid h)) ((space, payload, brings, place, effects, allowed), tt) is was

  -- ---- all events

  sooner : (limits : Limits) (turn : Event × ℕ) (turns : List (Event × ℕ)) (k : Socket) → IsLetInBy policy limits turn k → IsLetIn policy limits (turn ∷ turns) k
  sooner limits turn turns k is = (turn, Contains-append_left (turn ∷ []) turns turn (Contains-push [] turn), is)

  later : (limits : Limits) (turn : Event × ℕ) (turns : List (Event × ℕ)) (k : Socket) → IsLetIn policy limits turns k → IsLetIn policy limits (turn ∷ turns) k
  later limits turn turns k (other, inside, is) = (other, Contains-append_right (turn ∷ []) turns other inside, is)

  pub run-lets : (events : List (Event × ℕ)) (answers : List Answer) (s t : Standing) → HaveHistories s.core → Machine policy told events answers s t
      → AttachesOnly (IsLetIn policy s.core.history.limits events) s.core.history t.core.history × HaveHistories t.core
  unfolding Machine
  run-lets [] [] s t lines same =
      subst (λ (u : Standing). AttachesOnly (IsLetIn policy s.core.history.limits []) s.core.history u.core.history × HaveHistories u.core) (sym same) (attaches-none _ s.core.history, lines)
  run-lets [] (answer ∷ answers) s t lines none = absurd none
  run-lets (turn ∷ turns) [] s t lines none = absurd none
  run-lets (turn ∷ turns) (answer ∷ answers) s t lines (m, does, run) =
      let limits = s.core.history.limits in
      let first = event-lets turn.1 turn.0 answer s m lines does in
      let rest = run-lets turns answers m t first.1 run in
      let same : m.core.history.limits ≡ limits = ap (λ (h : History). h.limits) first.0.goes in (
        attaches-on (IsLetIn policy limits (turn ∷ turns)) s.core.history m.core.history t.core.history
            (attaches-weaker (IsLetInBy policy limits turn) (IsLetIn policy limits (turn ∷ turns)) (sooner limits turn turns) s.core.history m.core.history first.0)
            (attaches-weaker (IsLetIn policy m.core.history.limits turns) (IsLetIn policy limits (turn ∷ turns))
            (λ k is. later limits turn turns k (subst (λ (l : Limits). IsLetIn policy l turns k) same is)) m.core.history t.core.history rest.0),
        rest.1,
      )

  -- ---- everyone

  -- where those who were attached were let in, each of them was attached and let in
  each-let-in : (config : Limits) (events : List (Event × ℕ)) (journal : List Step) → AllByRecursion (IsLetIn policy config events) (attached journal)
      → AllByRecursion (λ (k : Socket). WasLetIn policy config events journal k.sid k.space) (attached journal)
  each-let-in config events journal all =
      let ks = attached journal in
      let Is = IsLetIn policy config events in
      recursion_from_All (λ (k : Socket). WasLetIn policy config events journal k.sid k.space) ks
      (All-weaker (Contains ks) (λ (k : Socket). WasLetIn policy config events journal k.sid k.space) (λ k inside. (k, inside, refl, refl, All-contains Is ks k (All-from_recursion Is ks all) inside)) ks
      (All-contains_itself ks))

  pub everyone-let-in : (config : Limits) (events : List (Event × ℕ)) (answers : List Answer) (sealed : List History) (h : History) (lines : List (ℕ × PlainLine)) (ids left : ℕ → ℕ)
      → Machine policy told events answers (standing (new_core config told).hub.history [] ids) (standing (in_one sealed h) lines left) → AreAlike h (in_one sealed h)
      → Everyone (WasLetIn policy config events (in_one sealed h).journal) h
  unfolding sockets
  everyone-let-in config events answers sealed h lines ids left run alike =
      let whole = in_one sealed h in
      let Is = WasLetIn policy config events whole.journal in
      let were = (run-lets events answers (standing (new_core config told).hub.history [] ids) (standing whole lines left) (λ c line is. absurd (none line is)) run).0 in
      let journal : were.steps ≡ whole.journal = sym (append-nil were.steps) ∙ ap (λ (g : History). g.journal) (sym were.goes) in
      let base : empty_base config.first_offset ≡ whole.base = ap (λ (g : History). g.base) (sym were.goes) in
      alike-there Is h whole alike
      (all-there Is whole.base whole.limits whole.journal alike.second.0
      (each-let-in config events whole.journal (subst (λ (steps : List Step). AllByRecursion (IsLetIn policy config events) (attached steps)) journal were.each))
      (subst (λ (b : PlainBase). Connected Is (sockets b [])) base tt)
      (subst (λ (b : PlainBase). Saved Is b.saved) base tt))
    where
      none : (line : PlainLine) → None ≡ Some line → ⊥
      none line e = absurd (cc e)
