-- Which sockets of a namespace the app speaks of together, as plain data.
use Rattle.std.specs.Prelude.{ℕ, List}

-- those of the namespace in one of the rooms, or all where none is named, but for those in an excepted one
pub record PlainSelection : Type 0 where
  pub space : List ℕ
  pub rooms : List (List ℕ)
  pub excepted : List (List ℕ)
