-- Which questions are open after a history (Socket.IO protocol 5, "Acknowledgement"). The
-- newest call stands first.
use Rattle.std.specs.Prelude.{ℕ, ◌+◌, ◌==◌, nat_lt, not, List, [], ◌∷◌, ◌++◌, Option, filter}
use Rattle.std.specs.Map.{lookup}
use Rattle.connection.specs.declared.ack_book.Question.{Question}

-- an accepted call: a question with its tag and the moment at which it runs out, an answer to an
-- id, an expiry at a moment
pub data Call : Type 0 where
  Asked : ℕ → ℕ → Call
  Answered : ℕ → Call
  Expired : ℕ → Call

-- how many questions were asked
unfoldable pub asks : List Call → ℕ
asks [] = 0
asks (Asked tag until ∷ h) = asks h + 1
asks (_ ∷ h) = asks h

-- the id of the next question: ids rise by one from the first
abbrev pub next_id : ℕ → List Call → ℕ
next_id first h = first + asks h

-- the open questions by their ids, rising: each one asked, until its id is answered or an expiry
-- comes at its moment or later
unfoldable pub open_questions : ℕ → List Call → List (ℕ × Question)
open_questions first [] = []
open_questions first (Asked tag until ∷ h) =
    open_questions first h ++ (next_id first h, record { tag = tag; until = until }) ∷ []
open_questions first (Answered id ∷ h) =
    filter (λ entry. not (id == entry.0)) (open_questions first h)
open_questions first (Expired now ∷ h) =
    filter (λ entry. nat_lt now entry.1.until) (open_questions first h)

-- the question that is open under an id
abbrev pub question_at : ℕ → List Call → ℕ → Option Question
question_at first h id = lookup (λ key. id == key) (open_questions first h)
