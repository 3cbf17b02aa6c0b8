-- What a tick does, from what its parts do.
use Rattle.std.proofs.Common.{◌≡◌, ℕ, Bool, true, false, List, [], ◌∷◌, inl, inr, sym, ap, Option, None, Some, Ok}
use Rattle.std.specs.Prelude.{unwrap_or}
use Rattle.connection.specs.declared.clock.Due.{Due}
use Rattle.connection.specs.History.{Ticked}
use Rattle.connection.specs.Line.{PlainLine, Advances}
use Rattle.journal.specs.declared.error.HubError.{HubError}
use Rattle.journal.specs.declared.error.HubError.TheVariants as hub
use Rattle.journal.specs.Journal.{History}
use Rattle.events.specs.Answer.{Answer}
use Rattle.dispatch.specs.Scene.{visit_at}
use Rattle.dispatch.specs.Answers.{ForClient, AdvancesLine}
use Rattle.dispatch.specs.Holding.{Holding, line_of, holding, KeepsOthers}
use Rattle.dispatch.specs.Parking.{Parks, ParksOrCloses}
use Rattle.dispatch.specs.Upkeep.{IsDue, TicksOn, Ticks}

-- an error that says so is the refusal for want of space
pub saved-full : (refused : Option HubError) → hub.SavedFull ≡ unwrap_or refused hub.Memory → refused ≡ Some hub.SavedFull
saved-full None is = absurd (cc is)
saved-full (Some e) is = ap Some (sym is)

-- the sessions were saved or the client was closed
pub parked-or-closed : (saved : Bool) (h g : History) (now c : ℕ) → Parks h now c (Ok saved) g → ParksOrCloses h now c g
parked-or-closed true h g now c made = inl made
parked-or-closed false h g now c closed = inr closed

-- what is due to a client that is known is done
pub ticks : (now c : ℕ) (line : PlainLine) (h : History) (old : List (ℕ × PlainLine)) (answer : Answer) (t : Holding) (told due : Due) → line_of old c ≡ Some line → told ≡ due → IsDue told now line
    → TicksOn due (visit_at c now) line (holding h old) answer t → ForClient c (Ticks (visit_at c now)) (holding h old) answer t
ticks now c line h old answer t told due known is says row = rw (known, ForClient) (due, rw is at says, row)

-- the line with the tick on it
pub ticked : (now c : ℕ) (line after : PlainLine) (h g : History) (old new : List (ℕ × PlainLine)) (told due : Due) → g ≡ h → line_of new c ≡ Some after → KeepsOthers c (holding h old) (holding g new) → told ≡ due
    → Advances line (Ticked now told ∷ []) after → AdvancesLine c line (Ticked now due ∷ []) (holding h old) (holding g new)
ticked now c line after h g old new told due same has others is advances = (same, (rw has (rw is at advances), others))
