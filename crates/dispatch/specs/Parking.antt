-- A client that is gone: its sessions are saved, or it is closed (Socket.IO server documentation, "Connection state recovery").
use Rattle.std.specs.Prelude.{◌≡◌, ◌⊎◌, ℕ, Bool, true, false, Result, Ok, Err}
use Rattle.journal.specs.declared.error.HubError.TheVariants as hub
use Rattle.journal.specs.declared.step.What.TheVariants as what
use Rattle.journal.specs.Journal.{History}
use Rattle.events.specs.declared.fault.CoreFault.{CoreFault}
use Rattle.dispatch.specs.Commands.{Makes, IsRefused, StopsAt}

-- its sessions are saved, or where they have no space it is closed
abbrev pub ParksOrCloses : History → ℕ → ℕ → History → Type 0
ParksOrCloses h now c g = Makes h now (what.Parked c) g ⊎ (IsRefused h now (what.Parked c) hub.SavedFull × Makes h now (what.Closed c) g)

-- neither is done
abbrev pub FailsToPark : History → ℕ → ℕ → CoreFault → Type 0
FailsToPark h now c fault = StopsAt h now (what.Parked c) fault
    ⊎ (IsRefused h now (what.Parked c) hub.SavedFull × StopsAt h now (what.Closed c) fault)

-- the one or the other, or neither, and then nothing has changed
abbrev pub Parks : History → ℕ → ℕ → Result Bool CoreFault → History → Type 0
Parks h now c (Ok true) g = Makes h now (what.Parked c) g
Parks h now c (Ok false) g = IsRefused h now (what.Parked c) hub.SavedFull × Makes h now (what.Closed c) g
Parks h now c (Err fault) g = FailsToPark h now c fault × (g ≡ h)
