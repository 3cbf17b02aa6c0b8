-- What a clock holds.
use Rattle.std.specs.Prelude.{ℕ, Bool, Option}
use Rattle.connection.specs.declared.clock.Timing.{Timing}
use Rattle.connection.specs.declared.clock.Transport.{Transport}

-- the moments of the opening, of the newest call, of the ping that is awaited, and from which
-- the ping interval counts
pub record Contents : Type 0 where
  pub timing : Timing
  pub opened : ℕ
  pub last : ℕ
  pub interval_start : ℕ
  pub ping : Option ℕ
  pub joined : Bool
  pub transport : Transport
