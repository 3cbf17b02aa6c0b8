-- Whoever is in a namespace came through the entrance.
use Rattle.std.proofs.Common.{◌≡◌, ℕ, List, [], refl, ◌∙◌}
use Rattle.connection.specs.Line.{PlainLine}
use Rattle.journal.specs.Plain.{Limits}
use Rattle.journal.specs.Journal.{History}
use Rattle.events.specs.declared.app.Effect.{Effect}
use Rattle.events.specs.declared.event.Event.{Event}
use Rattle.events.specs.Answer.{Answer}
use Rattle.events.specs.App.{Policy, PlainVerdict, Accepted}
use Rattle.guarded.specs.declared.guarded.Entrance.{Entrance}
use Rattle.guarded.specs.declared.guarded.Pass.{Pass}
use Rattle.guarded.specs.declared.guarded.Pass.TheVariants.{Granted, NotAllowed, Expired}
use Rattle.guarded.specs.Guarded.{Admits, pass_into}
use Rattle.dispatch.specs.declared.clients.Handshake.{Handshake}
use Rattle.dispatch.specs.Machine.{Machine}
use Rattle.dispatch.specs.Holding.{standing, new_core}
use Rattle.epochs.specs.Entrances.{CameIn}
use Rattle.epochs.specs.Epochs.{AreAlike, in_one}
use Rattle.epochs.specs.LetIn.{Everyone, WasLetIn}
use Rattle.epochs.proofs.BackendLemmas.{everyone-weaker}
use Rattle.epochs.proofs.LetInLaws.{everyone-let-in}

-- whom the app lets in behind an entrance came in by that
pub admitted : (pass : Pass) (allows : PlainVerdict → Type 0) (effects : List Effect) → Admits pass allows (Accepted effects) → (pass ≡ Granted) × allows (Accepted effects)
admitted Granted allows effects is = (refl, is)
admitted NotAllowed allows effects is = absurd (cc is)
admitted Expired allows effects is = absurd (cc is)

module _ (entrance : Entrance) (apart : List (List ℕ)) (policy : Policy) (told : Handshake) (config : Limits)
    (allows : (moment : ℕ) (space payload : List ℕ) (effects : List Effect) → policy.allows moment space payload (Accepted effects) → pass_into entrance apart moment space payload ≡ Granted) where
  pub everyone-in : (events : List (Event × ℕ)) (answers : List Answer) (sealed : List History) (h : History) (lines : List (ℕ × PlainLine)) (ids left : ℕ → ℕ)
      → Machine policy told events answers (standing (new_core config told).hub.history [] ids) (standing (in_one sealed h) lines left) → AreAlike h (in_one sealed h)
      → Everyone (CameIn entrance apart config events (in_one sealed h).journal) h
  everyone-in events answers sealed h lines ids left run alike =
      everyone-weaker (WasLetIn policy config events (in_one sealed h).journal) (CameIn entrance apart config events (in_one sealed h).journal) by-entrance h
      (everyone-let-in policy told config events answers sealed h lines ids left run alike)
    where
      by-entrance : (sid space : ℕ) → WasLetIn policy config events (in_one sealed h).journal sid space → CameIn entrance apart config events (in_one sealed h).journal sid space
      by-entrance sid space (k, inside, is, at, (turn, seen, (name, payload, brings, place, effects, allowed))) = (
        k,
        inside,
        is,
        at,
        turn,
        seen,
        name,
        payload,
        brings,
        place ∙ at,
        allows turn.1 name payload effects allowed,
      )
