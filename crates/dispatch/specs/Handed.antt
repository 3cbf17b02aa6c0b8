-- What the takes of a client hand out: put end to end, and with what still waits at the end, it is all that was put for the
-- client since it was opened. A seal keeps what waits alone, so after it the account begins anew with that.
use Rattle.std.specs.Prelude.{◌≡◌, ◌⊎◌, ℕ, ◌==◌, Bool, true, false, List, [], ◌∷◌, ◌++◌, length, Ok, Err}
use Rattle.std.specs.List.{AllZip, list_any}
use Rattle.eio_wire.specs.declared.packet.Packet.TheVariants.{Noop}
use Rattle.eio_wire.specs.Payload.{Payload}
use Rattle.terms.specs.declared.entry.Entry.{Entry}
use Rattle.journal.specs.declared.step.Step.{Step}
use Rattle.journal.specs.Journal.{History}
use Rattle.journal.specs.Outboxes.{begins, placements, taken, waiting}
use Rattle.events.specs.declared.event.Event.{Event}
use Rattle.events.specs.declared.event.Event.TheVariants as event
use Rattle.events.specs.declared.outcome.Outcome.{Outcome}
use Rattle.events.specs.declared.outcome.Outcome.TheVariants as outcome
use Rattle.events.specs.Answer.{Answer}
use Rattle.dispatch.specs.Frames.{IsSentAs}
use Rattle.dispatch.specs.Takes.{carried}

-- an event and its answer
abbrev pub Turn : Type 0
Turn = Event × Answer

-- the client was opened
abbrev pub opens : ℕ → Event → Answer → Bool
opens c (event.Opened socket) (Ok (outcome.Opened o)) = o.client == c
opens c _ answer = false

-- something was to be taken for the client
abbrev pub takes : ℕ → Event → Bool
takes c (event.PollTake d most) = d == c
takes c (event.FrameTake d most) = d == c
takes c _ = false

-- the entries that an outcome holds; the payload that only tells a GET that there is nothing holds none
abbrev pub Holds : Outcome → List Entry → Type 0
Holds (outcome.Payload text) entries = (Payload (Noop [] ∷ []) text × (entries ≡ [])) ⊎ ((ping : Bool) × Payload (carried ping entries) text)
Holds (outcome.Frames frames) entries = (ping : Bool) × AllZip IsSentAs (carried ping entries) frames.list
Holds _ entries = entries ≡ []

-- an event that ended with an error hands out nothing
abbrev pub HandsOut : Answer → List Entry → Type 0
HandsOut (Ok outcome) entries = Holds outcome entries
HandsOut (Err e) entries = entries ≡ []

-- what the takes of a client handed out since it was opened, put end to end; the newest turn stands first
unfoldable pub HandedOut : ℕ → List Turn → List Entry → Type 0
HandedOut c [] entries = entries ≡ []
HandedOut c (turn ∷ before) entries = elim (opens c turn.0 turn.1) [
  | true ↦ entries ≡ []
  | false ↦ elim (takes c turn.0) [
    | false ↦ HandedOut c before entries
    | true ↦ (earlier : List Entry) × (more : List Entry) × HandedOut c before earlier × HandsOut turn.1 more × (entries ≡ earlier ++ more)
  ]
]

-- these entries were handed out: with those that wait at their end they are all that was put for the client since it was
-- opened, in order and each once; and they are as many as the hub has counted
pub record AreHanded (c : ℕ) (h : History) (entries : List Entry) : Type 0 where
  pub whole : entries ++ waiting h.base h.limits h.journal c ≡ placements h.base h.limits h.journal c
  pub count : taken h.base h.journal c ≡ length entries

-- one of these turns opened the client
abbrev pub is_opened_in : ℕ → List Turn → Bool
is_opened_in c turns = list_any (λ (turn : Turn). opens c turn.0 turn.1) turns

-- one of these steps did
abbrev pub is_begun_in : ℕ → List Step → Bool
is_begun_in c steps = list_any (λ (step : Step). begins c step.what) steps

-- what the client's takes handed out in these turns is so; and the turns opened it where the steps did
pub record Handed (c : ℕ) (turns : List Turn) (h : History) : Type 0 where
  pub entries : List Entry
  pub out : HandedOut c turns entries
  pub are : AreHanded c h entries
  pub opened : is_begun_in c h.journal ≡ is_opened_in c turns
