-- What the app that lets backends drive the server does.
use Rattle.std.specs.Prelude.{ℕ, if◌then◌else◌, bytes_eq, List, [], codes}
use Rattle.guarded.specs.Entrance.{has_token}
use Rattle.events.specs.App.{PlainVerdict, Accepted, Refused}
use Rattle.events.specs.declared.app.Who.{Who}
use Rattle.events.specs.declared.app.Arrived.{Arrived}
use Rattle.events.specs.declared.app.Arrived.TheVariants.{Event}
use Rattle.events.specs.declared.app.Effect.{Effect}
use Rattle.switchboard.specs.Digits.{digits_verdict}
use Rattle.switchboard.specs.Telling.{BACKENDS, told}
use Rattle.switchboard.specs.Command.{commanded}

-- a backend comes in with its token, into the rooms of its digits
abbrev pub backend_verdict : (token payload : List ℕ) → PlainVerdict
backend_verdict token payload =
    if has_token token payload then digits_verdict payload else Refused (codes "Not allowed")

-- who may connect: another client may
abbrev pub verdict_of : (token : List ℕ) → (space payload : List ℕ) → PlainVerdict
verdict_of token space payload = if bytes_eq space BACKENDS then backend_verdict token payload else Accepted []

-- an event of a backend is a command, and nothing else of it has effects
abbrev pub of_backend : (spaces : List (List ℕ)) → Arrived → List Effect
of_backend spaces (Event m) = commanded spaces m
of_backend spaces _ = []

-- backends command, and are told what others do
abbrev pub decided : (spaces : List (List ℕ)) → Who → Arrived → List Effect
decided spaces who arrived = if bytes_eq who.space BACKENDS then of_backend spaces arrived else told who arrived
