-- The calls on a clock so far, and their moments. The newest call stands first.
use Rattle.std.specs.Prelude.{ℕ, max, Bool, true, false, List, [], ◌∷◌}
use Rattle.connection.specs.declared.clock.Timing.{Timing}
use Rattle.connection.specs.declared.clock.Due.{Due}

-- how a clock was opened: when, with which intervals, and whether over a WebSocket
pub record Opening : Type 0 where
  pub now : ℕ
  pub timing : Timing
  pub socket : Bool

-- an accepted call: with the moment that was handed in, and a tick with its answer
pub data Call : Type 0 where
  Ticked : ℕ → Due → Call
  Ponged : ℕ → Call
  Joined : Call
  Probed : Call
  Upgraded : Call
  ProbeLost : Call

-- the moment of the newest call: the greatest that was handed in so far
unfoldable pub moment : Opening → List Call → ℕ
moment o [] = o.now
moment o (Ticked now answer ∷ h) = max (moment o h) now
moment o (Ponged now ∷ h) = max (moment o h) now
moment o (_ ∷ h) = moment o h

-- a namespace was joined
unfoldable pub was_joined : List Call → Bool
was_joined [] = false
was_joined (Joined ∷ h) = true
was_joined (_ ∷ h) = was_joined h
