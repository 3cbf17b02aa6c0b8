-- A history one call longer.
use Rattle.std.proofs.Common.{◌∷◌}
use Rattle.connection.specs.ClockHistory.{Call}
use Rattle.connection.specs.ClockContents.{Contents}
use Rattle.connection.specs.Clock.{LeadsTo, ForEachHistory, HasHistory}

-- a call that leads from each history to the next contents leads from the one that there is
pub one_call_longer : (c next : Contents) (call : Call) → ForEachHistory c (λ o h. LeadsTo o (call ∷ h) next) → HasHistory c → HasHistory next
one_call_longer c next call leads was =
    record { opening = was.opening; calls = call ∷ was.calls; leads = leads was.opening was.calls was.leads }
