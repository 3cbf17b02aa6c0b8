-- What a book holds.
use Rattle.std.specs.Prelude.{ℕ, List}
use Rattle.connection.specs.declared.ack_book.Question.{Question}

-- the next id, and the open questions by their ids
pub record Contents : Type 0 where
  pub next : ℕ
  pub questions : List (ℕ × Question)
