-- Whoever is in the namespace of the backends came by the token.
use Rattle.std.proofs.Common.{◌≡◌, ℕ, Bool, true, false, List, [], refl, sym, ◌∙◌, ap, subst, arith, length, get_or, nat_lt, Option, None, Some, unwrap_or, if◌then◌else◌}
use Rattle.std.specs.Prelude.{bytes_eq, position, codes}
use Rattle.std.proofs.lemmas.Bool.Decides.{nat_tests}
use Rattle.std.proofs.lemmas.List.Quantifiers.{position-Some}
use Rattle.std.proofs.lemmas.Slice.Eq.{bytes_eq-Decides}
use Rattle.connection.specs.Line.{PlainLine}
use Rattle.recovery.specs.SavedTable.{PlainSaved}
use Rattle.journal.specs.declared.socket.Socket.{Socket}
use Rattle.journal.specs.Plain.{Limits}
use Rattle.journal.specs.Journal.{History}
use Rattle.journal.specs.Membership.{is_space, place_of, sockets}
use Rattle.journal.specs.Sessions.{sessions}
use Rattle.journal.proofs.SealListsLemmas.{all-to}
use Rattle.events.specs.declared.app.Effect.{Effect}
use Rattle.events.specs.declared.event.Event.{Event}
use Rattle.events.specs.Answer.{Answer}
use Rattle.events.specs.App.{Policy, Accepted, Refused}
use Rattle.guarded.specs.Entrance.{has_token}
use Rattle.switchboard.specs.Digits.{digits_verdict}
use Rattle.switchboard.specs.Switchboard.{verdict_of}
use Rattle.switchboard.specs.Telling.{BACKENDS}
use Rattle.dispatch.specs.declared.clients.Handshake.{Handshake}
use Rattle.dispatch.specs.Machine.{Machine}
use Rattle.dispatch.specs.Holding.{standing, new_core}
use Rattle.epochs.specs.Backends.{CameByToken}
use Rattle.epochs.specs.Epochs.{AreAlike, in_one}
use Rattle.epochs.specs.LetIn.{Brings, Everyone, WasLetIn}
use Rattle.epochs.proofs.LetInLaws.{everyone-let-in}

-- ---- namespaces

-- the name at the place of a namespace that the hub has
name-at : (limits : Limits) (space : List ℕ) → is_space limits (place_of limits space) ≡ true → get_or limits.spaces (place_of limits space) [] ≡ space
unfolding place_of
name-at limits space is = on (position (bytes_eq space) limits.spaces) refl is
  where
    on : (o : Option ℕ) → position (bytes_eq space) limits.spaces ≡ o → nat_lt (unwrap_or o (length limits.spaces)) (length limits.spaces) ≡ true → get_or limits.spaces (unwrap_or o (length limits.spaces)) [] ≡ space
    on None found within = absurd (grind (arith, nat_tests, within))
    on (Some i) found within = sym ((bytes_eq-Decides space (get_or limits.spaces i [])).0 (position-Some (bytes_eq space) limits.spaces i [] found).1)

-- no other namespace has its place
place-once : (limits : Limits) (space other : List ℕ) → place_of limits other ≡ place_of limits space → is_space limits (place_of limits space) ≡ true → other ≡ space
place-once limits space other same is =
    sym (name-at limits other (ap (is_space limits) same ∙ is)) ∙ ap (λ n. get_or limits.spaces n []) same ∙ name-at limits space is

-- ---- the verdict

-- a backend is let in with the token alone
token-needed : (token payload : List ℕ) (effects : List Effect) → Accepted effects ≡ verdict_of token BACKENDS payload → has_token token payload ≡ true
token-needed token payload effects is = on (has_token token payload) refl is
  where
    on : (b : Bool) → has_token token payload ≡ b → Accepted effects ≡ (if b then digits_verdict payload else Refused (codes "Not allowed")) → has_token token payload ≡ true
    on true has allowed = has
    on false has allowed = absurd (cc allowed)

-- ---- everyone

pub everyone-weaker : (Is These : (sid space : ℕ) → Type 0) → ((sid space : ℕ) → Is sid space → These sid space) → (h : History) → Everyone Is h → Everyone These h
everyone-weaker Is These each h was = record {
  connected = all-to (λ (k : Socket). Is k.sid k.space) (λ (k : Socket). These k.sid k.space) (λ k is. each k.sid k.space is) (sockets h.base h.journal) was.connected;
  saved = all-to (λ (s : PlainSaved). Is s.sid s.space) (λ (s : PlainSaved). These s.sid s.space) (λ s is. each s.sid s.space is) (sessions h.base h.limits h.journal) was.saved;
}

module _ (token : List ℕ) (policy : Policy) (told : Handshake) (config : Limits) (there : is_space config (place_of config BACKENDS) ≡ true)
    (allows : (moment : ℕ) (space payload : List ℕ) (effects : List Effect) → policy.allows moment space payload (Accepted effects) → Accepted effects ≡ verdict_of token space payload) where
  pub backends-came : (events : List (Event × ℕ)) (answers : List Answer) (sealed : List History) (h : History) (lines : List (ℕ × PlainLine)) (ids left : ℕ → ℕ)
      → Machine policy told events answers (standing (new_core config told).hub.history [] ids) (standing (in_one sealed h) lines left) → AreAlike h (in_one sealed h)
      → Everyone (λ sid space. space ≡ place_of config BACKENDS → CameByToken token events (in_one sealed h).journal sid space) h
  backends-came events answers sealed h lines ids left run alike =
      everyone-weaker (WasLetIn policy config events (in_one sealed h).journal) (λ sid space. space ≡ place_of config BACKENDS → CameByToken token events (in_one sealed h).journal sid space) by-token h
      (everyone-let-in policy told config events answers sealed h lines ids left run alike)
    where
      by-token : (sid space : ℕ) → WasLetIn policy config events (in_one sealed h).journal sid space → space ≡ place_of config BACKENDS → CameByToken token events (in_one sealed h).journal sid space
      by-token sid space (k, inside, is, at, (turn, seen, (name, payload, brings, place, effects, allowed))) here =
          let same : name ≡ BACKENDS = place-once config BACKENDS name (place ∙ at ∙ here) there in (
            k,
            inside,
            is,
            at,
            turn,
            seen,
            payload,
            subst (λ (n : List ℕ). Brings turn.0 k.client n payload) same brings,
            token-needed token payload effects (subst (λ (n : List ℕ). Accepted effects ≡ verdict_of token n payload) same (allows turn.1 name payload effects allowed)),
          )
