-- What the app answers, as plain data, and what it may not put into a payload.
use Rattle.std.specs.Prelude.{ℕ, List}
use Rattle.std.specs.List.{AllByRecursion}
use Rattle.eio_wire.specs.Payload.{IsWhole}
use Rattle.events.specs.declared.app.Verdict.{Verdict}
use Rattle.events.specs.declared.app.Verdict.TheVariants.{Accept, Refuse}
use Rattle.events.specs.declared.app.Arrived.{Arrived}
use Rattle.events.specs.declared.app.Arrived.TheVariants.{Connected, Returned, Event, Answer, Stray}
use Rattle.events.specs.declared.app.Effect.{Effect}
use Rattle.events.specs.declared.app.Effect.TheVariants.{Emit, EmitAsk, Reply}
use Rattle.events.specs.declared.app.Who.{Who}
use Rattle.journal.specs.declared.ending.Ending.{Ending}

-- the socket is connected and these effects follow, or it is refused with a message
pub data PlainVerdict : Type 0 where
  Accepted : List Effect → PlainVerdict
  Refused : List ℕ → PlainVerdict

-- what an app may answer: to a CONNECT at a moment, to what arrived from a socket, and where a socket has ended that was in these rooms
pub record Policy : Type 1 where
  pub allows : (moment : ℕ) → (space payload : List ℕ) → PlainVerdict → Type 0
  pub decides : Who → Arrived → List Effect → Type 0
  pub ends : Who → (rooms : List (List ℕ)) → Ending → List Effect → Type 0

abbrev pub plain_verdict : Verdict → PlainVerdict
plain_verdict (Accept effects) = Accepted effects.items
plain_verdict (Refuse message) = Refused message

-- what arrived holds no U+001E, which separates the packets of a payload; rooms may
abbrev pub IsCleanArrival : Arrived → Type 0
IsCleanArrival (Connected newcomer) = IsWhole newcomer.payload × IsWhole newcomer.claims
IsCleanArrival (Returned rooms) = Unit {0}
IsCleanArrival (Event message) = IsWhole message.payload
IsCleanArrival (Answer answer) = IsWhole answer.payload
IsCleanArrival (Stray stray) = IsWhole stray.payload

-- no payload that is emitted, asked or replied holds it
abbrev pub IsCleanEffect : Effect → Type 0
IsCleanEffect (Emit emission) = IsWhole emission.payload
IsCleanEffect (EmitAsk inquiry) = IsWhole inquiry.payload
IsCleanEffect (Reply reply) = IsWhole reply.payload
IsCleanEffect _ = Unit {0}

abbrev pub AllClean : List Effect → Type 0
AllClean effects = AllByRecursion IsCleanEffect effects

-- the effects of a connection hold none where the payload of the CONNECT holds none
abbrev pub IsCleanVerdict : List ℕ → PlainVerdict → Type 0
IsCleanVerdict payload (Accepted effects) = IsWhole payload → AllClean effects
IsCleanVerdict payload (Refused message) = Unit {0}
