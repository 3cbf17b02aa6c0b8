-- What a book answers, and which histories lead to what it holds.
use Rattle.std.specs.Prelude.{◌≡◌, ◌≢◌, ℕ, nat_lt, List, [], ◌∷◌, Option, None, Some, Result, Ok, Err, All, IsSome, IfSome, IfOk, IfErr, OnOk, OnErr}
use Rattle.terms.specs.Refusal.{first_refusal}
use Rattle.connection.specs.declared.ack_book.Question.{Question}
use Rattle.connection.specs.declared.ack_book.AckError.{AckError}
use Rattle.connection.specs.declared.ack_book.AckError.TheVariants.{Memory, UnknownId, Spent}
use Rattle.connection.specs.Questions.{Call, Asked, Answered, Expired, next_id, open_questions, question_at}
use Rattle.connection.specs.BookContents.{Contents}

-- the greatest id: an acknowledgement id has at most fifteen digits
abbrev pub last_id : ℕ
last_id = 999_999_999_999_999

-- a question is refused where its id would be greater
abbrev pub ask_refusal : ℕ → List Call → Option AckError
ask_refusal first h = first_refusal ((nat_lt last_id (next_id first h), Spent) ∷ [])

-- an open question is answered with its tag
abbrev pub answer_of : Option Question → Result ℕ AckError
answer_of None = Err UnknownId
answer_of (Some question) = Ok question.tag

-- no call of the history answered this id
abbrev pub IsUnanswered : List Call → ℕ → Type 0
IsUnanswered h id = All (λ call. call ≢ Answered id) h

-- no question was asked that is refused, and each answer was to an open question
unfoldable pub IsLegal : ℕ → List Call → Type 0
IsLegal first [] = Unit {0}
IsLegal first (Asked tag until ∷ h) = (ask_refusal first h ≡ None) × IsLegal first h
IsLegal first (Answered id ∷ h) = IsSome (question_at first h id) × IsLegal first h
IsLegal first (Expired now ∷ h) = IsLegal first h

-- a book that begins with this id and then has these calls holds this
pub record LeadsTo (first : ℕ) (h : List Call) (b : Contents) : Type 0 where
  pub legal : IsLegal first h
  pub next : b.next ≡ next_id first h
  pub questions : b.questions ≡ open_questions first h

-- each history that leads to these contents is such
abbrev pub ForEachHistory : Contents → (ℕ → List Call → Type 0) → Type 0
ForEachHistory b P = (first : ℕ) (h : List Call) → LeadsTo first h b → P first h

-- with this call more, each history that leads to the one contents leads to the other
abbrev pub Advances : Contents → Call → Contents → Type 0
Advances old call new = ForEachHistory old (λ first h. LeadsTo first (call ∷ h) new)

-- a question was asked: its id is the next one; or it was refused, where its id would be too great and else for memory
-- alone, and changed nothing
pub record Asks (old : Contents) (tag until : ℕ) (result : Result ℕ AckError) (new : Contents) : Type 0 where
  pub refused : ForEachHistory old (λ first h. IfSome (ask_refusal first h) (λ e. result ≡ Err e))
  pub memory_alone : ForEachHistory old (λ first h. ask_refusal first h ≡ None → IfErr result (λ e. e ≡ Memory))
  pub id : IfOk result (λ id. ForEachHistory old (λ first h. id ≡ next_id first h))
  pub leads : OnOk result (Advances old (Asked tag until) new)
  pub unchanged : OnErr result (new ≡ old)

-- an id was answered: it has the tag of the question that was open under it; or there was none, and nothing changed
pub record Answers (old : Contents) (id : ℕ) (result : Result ℕ AckError) (new : Contents) : Type 0 where
  pub answer : ForEachHistory old (λ first h. result ≡ answer_of (question_at first h id))
  pub leads : OnOk result (Advances old (Answered id) new)
  pub unchanged : OnErr result (new ≡ old)

-- some history leads to these contents
pub record HasHistory (b : Contents) : Type 0 where
  pub first : ℕ
  pub calls : List Call
  pub leads : LeadsTo first calls b
