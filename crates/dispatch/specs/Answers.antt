-- How an event is answered, and what it leaves of the lines.
use Rattle.std.specs.Prelude.{◌≡◌, ℕ, List, Option, None, Some, Ok, Err}
use Rattle.connection.specs.History.{Call}
use Rattle.connection.specs.Line.{PlainLine, Advances}
use Rattle.journal.specs.declared.error.HubError.{HubError}
use Rattle.journal.specs.declared.step.What.TheVariants as what
use Rattle.events.specs.declared.cause.Cause.{Cause}
use Rattle.events.specs.declared.fault.CoreError.{CoreError}
use Rattle.events.specs.declared.fault.CoreFault.{CoreFault}
use Rattle.events.specs.declared.fault.CoreFault.TheVariants.{Memory, UnknownClient, BadConfig}
use Rattle.journal.specs.Journal.{History}
use Rattle.dispatch.specs.Scene.{Visit}
use Rattle.dispatch.specs.Commands.{Makes, StopsAt}
use Rattle.events.specs.Plain.{PlainDone, nothing_done}
use Rattle.events.specs.Answer.{Answer, at_once}
use Rattle.events.specs.declared.outcome.Outcome.TheVariants as outcome
use Rattle.dispatch.specs.Holding.{Holding, holding, HasLine, LosesLine, KeepsLines}

-- why there is no core: the limits allow no hub, or there is no memory
abbrev pub fault_of_config : Option HubError → CoreFault
fault_of_config None = Memory
fault_of_config (Some e) = BadConfig

-- the event ends with this fault, and nothing has changed
abbrev pub Refused : CoreFault → Holding → Answer → Holding → Type 0
Refused fault s answer t = (answer ≡ Err (at_once fault)) × (t.history ≡ s.history) × KeepsLines s t

-- the event ends with this error, and nothing has changed
abbrev pub ChangesNone : CoreError → Holding → Holding → Type 0
ChangesNone e s t = (e ≡ at_once e.fault) × (t.history ≡ s.history) × KeepsLines s t

-- the client has this line, or none where it was closed
abbrev pub KeepsWhileOpen : ℕ → PlainDone → PlainLine → Holding → Holding → Type 0
KeepsWhileOpen c done line s t = elim done.closed [
  | Some why ↦ LosesLine c s t
  | None ↦ HasLine c (λ after. after ≡ line) s t
]

-- the client's line has these calls more, and nothing else has changed
abbrev pub AdvancesLine : ℕ → PlainLine → List Call → Holding → Holding → Type 0
AdvancesLine c line calls s t = (t.history ≡ s.history) × HasLine c (λ after. Advances line calls after) s t

-- a client that is closed for a cause: nothing of what it sent was worked on
abbrev pub ClosesUnread : Cause → Visit → Holding → Answer → Holding → Type 0
ClosesUnread why visit s (Ok (outcome.Done done)) t = (done ≡ record nothing_done { closed = Some why })
    × Makes s.history visit.moment (what.Closed visit.client) t.history × LosesLine visit.client s t
ClosesUnread why visit s (Ok _) t = ⊥
ClosesUnread why visit s (Err e) t = StopsAt s.history visit.moment (what.Closed visit.client) e.fault × ChangesNone e s t

-- an event of a client that has no line is refused
abbrev pub ForClient : ℕ → (PlainLine → Holding → Answer → Holding → Type 0) → Holding → Answer → Holding → Type 0
ForClient c row s answer t = elim (s.lines c) [
  | None ↦ Refused UnknownClient s answer t
  | Some line ↦ row line s answer t
]

-- an event of a client at a moment
abbrev pub ForVisit : Visit → (Visit → PlainLine → Holding → Answer → Holding → Type 0) → Holding → Answer → Holding → Type 0
ForVisit visit row s answer t = ForClient visit.client (row visit) s answer t

-- an event of a client that concerns its line alone, whatever the hub's history is
abbrev pub OnLine : (c : ℕ) → (ℕ → PlainLine → Holding → Answer → Holding → Type 0)
    → List (ℕ × PlainLine) → Answer → List (ℕ × PlainLine) → Type 0
OnLine c row lines answer after = (h : History) → ForClient c (row c) (holding h lines) answer (holding h after)
