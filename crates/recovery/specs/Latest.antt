-- The newest broadcasts, as they are held.
use Rattle.std.specs.Prelude.{ℕ, List}
use Rattle.recovery.specs.PacketLog.{PlainLogged}

-- how many there may be, how many bytes these may have together, and they themselves, the oldest
-- first
pub record Shelf : Type 0 where
  pub limit : ℕ
  pub bytes : ℕ
  pub entries : List PlainLogged

abbrev pub shelf : (limit bytes : ℕ) → List PlainLogged → Shelf
shelf limit bytes entries = record { limit = limit; bytes = bytes; entries = entries }
