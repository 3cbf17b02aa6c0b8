-- What a peer asks of its moments.
use Rattle.std.specs.Prelude.{◌≡◌, ℕ, Bool, true, false, Option, None, Some}
use Rattle.events.specs.declared.event.Event.{Event}

-- a peer pauses here, or its moments stay as they are
abbrev pub PausesIf : {M : Type 0} → (pauses : M → M → Type 0) → Bool → M → M → Type 0
PausesIf pauses true old new = pauses old new
PausesIf pauses false old new = new ≡ old

-- an event has the moment that was given for it; where there is none, no moment is asked for
abbrev pub IsTimed : {M : Type 0} → (gives : M → ℕ → M → Type 0) → Option (Event × ℕ) → M → M → Type 0
IsTimed gives None old new = new ≡ old
IsTimed gives (Some timed) old new = gives old timed.1 new
