-- Answers that are remembered by numbers.
use Rattle.std.specs.Prelude.{ℕ, Option, nat_eq}
use Rattle.std.specs.HashMap.{get}
use Rattle.room_maps.specs.declared.remembered.Remembered.{Remembered}

-- the answer with a number
abbrev pub remembered : {A : Type 0} → Remembered A → ℕ → Option A
remembered r number = get nat_eq r.answers number
