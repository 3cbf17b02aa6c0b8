-- The question that was asked last is open; why a book has no id.
use Rattle.std.proofs.Common.{◌≡◌, ◌⊎◌, inl, inr, ℕ, ◌==◌, Bool, true, false, cond, List, [], ◌∷◌, ◌++◌, refl, sym, subst, ap, ◌∙◌, is_some, Option, None, Some, Result, Ok, Err, OnOk, IfErr, IfSome}
use Rattle.std.specs.Map.{lookup}
use Rattle.connection.specs.declared.ack_book.Question.{Question}
use Rattle.connection.specs.declared.ack_book.AckError.{AckError}
use Rattle.connection.specs.declared.ack_book.AckError.TheVariants as ack
use Rattle.connection.specs.Book.{ask_refusal, answer_of}
use Rattle.connection.specs.Questions.{next_id, open_questions, question_at}
use Rattle.connection.specs.History.{Call, Asked, Answered, book_calls}
use Rattle.connection.specs.Line.{PlainLine, LeadsTo, ForEachHistory, Advances}
use Rattle.terms.specs.declared.entry.Entry.{Entry}
use Rattle.journal.specs.declared.error.HubError.TheVariants as hub
use Rattle.journal.specs.declared.step.What.TheVariants as what
use Rattle.events.specs.declared.app.Inquiry as inquiry
use Rattle.events.specs.declared.app.Who.{Who}
use Rattle.events.specs.declared.cause.Cause.TheVariants.{OutboxFull}
use Rattle.events.specs.declared.fault.CoreFault.{CoreFault}
use Rattle.events.specs.declared.fault.CoreFault.TheVariants.{Memory}
use Rattle.dispatch.specs.Commands.{IsRefused, StopsAt}
use Rattle.dispatch.specs.Effects.{Scene, Closes, IsInquiry, IsNextId, told_to, asked_in_vain, Asks, FailsAt, FailsToAsk}
use Rattle.dispatch.proofs.StepLemmas.{itself}

found-last : (id : ℕ) (q : Question) (es : List (ℕ × Question)) → is_some (lookup (λ key. id == key) (es ++ (id, q) ∷ [])) ≡ true
found-last id q [] = rw (itself id) refl
found-last id q (e ∷ es) = on (id == e.0) (found-last id q es)
  where
    on : (b : Bool) → is_some (lookup (λ key. id == key) (es ++ (id, q) ∷ [])) ≡ true → is_some (cond b (Some e.1) (lookup (λ key. id == key) (es ++ (id, q) ∷ []))) ≡ true
    on true rest = refl
    on false rest = rest

asked-open : (sid tag until : ℕ) (h : List Call) (id : ℕ) → id ≡ next_id 0 (book_calls sid h) → is_some (question_at 0 (book_calls sid (Asked sid tag until ∷ h)) id) ≡ true
unfolding book_calls open_questions
asked-open sid tag until h id next =
    rw (itself sid, next) (found-last (next_id 0 (book_calls sid h)) (record { tag = tag; until = until }) (open_questions 0 (book_calls sid h)))

-- it can be answered, and so it is forgotten
pub forgets : (l old new : PlainLine) (sid id tag until : ℕ) (r : Result ℕ AckError) → IsNextId l sid id → Advances l (Asked sid tag until ∷ []) old
    → ForEachHistory old (λ o h. r ≡ answer_of (question_at 0 (book_calls sid h) id)) → OnOk r (Advances old (Answered sid id ∷ []) new)
    → Advances l (Answered sid id ∷ Asked sid tag until ∷ []) new
forgets l old new sid id tag until r next advances answers goes o h leads =
    let there = advances o h leads in
    on r (question_at 0 (book_calls sid (Asked sid tag until ∷ h)) id) (asked-open sid tag until h id (next o h leads)) (answers o (Asked sid tag until ∷ h) there) goes
  where
    on : (r : Result ℕ AckError) (q : Option Question) → is_some q ≡ true → r ≡ answer_of q → OnOk r (Advances old (Answered sid id ∷ []) new) → LeadsTo o (Answered sid id ∷ Asked sid tag until ∷ h) new
    on (Ok t) q some is goes = goes o (Asked sid tag until ∷ h) (advances o h leads)
    on (Err e) (Some q) some is goes = absurd (cc is)
    on (Err e) None some is goes = absurd (cc some)

-- a book that answers Spent has no id left
pub spent-book : (l : PlainLine) (sid : ℕ) (r : Result ℕ AckError) → r ≡ Err ack.Spent
    → ForEachHistory l (λ o h. IfSome (ask_refusal 0 (book_calls sid h)) (λ e. r ≡ Err e))
    → ForEachHistory l (λ o h. ask_refusal 0 (book_calls sid h) ≡ None → IfErr r (λ e. e ≡ ack.Memory))
    → ForEachHistory l (λ o h. ask_refusal 0 (book_calls sid h) ≡ Some ack.Spent)
spent-book l sid r is refused short o h leads = on (ask_refusal 0 (book_calls sid h)) r is (refused o h leads) (short o h leads)
  where
    on : (o : Option AckError) (r : Result ℕ AckError) → r ≡ Err ack.Spent → IfSome o (λ e. r ≡ Err e) → (o ≡ None → IfErr r (λ e. e ≡ ack.Memory)) → o ≡ Some ack.Spent
    on None (Err e) is refused short = absurd (cc (is, short refl))
    on None (Ok x) is refused short = absurd (cc is)
    on (Some e) r is refused short = cc (is, refused)

-- ---- nobody is told

module _ (who : Who) (q : inquiry.Inquiry) (now id : ℕ) (s m t : Scene) (next : IsNextId s.line who.sid id)
    (vain : Advances s.line (asked_in_vain who now q id) m.line) (asked : m ≡ record s { line = m.line }) where
  -- the outbox has no space for the question, and the client is closed
  pub asks-full : {X : Type 0} (r : Result X CoreFault) (entry : Entry) → IsInquiry who.space id q entry
      → IsRefused s.history now (told_to who.client entry) hub.OutboxFull
      → OnOk r (Closes who.client now OutboxFull m t) → OnOk r (Asks who q now s t)
  asks-full (Ok x) entry is refused closes =
      let same = ap (λ (u : Scene). u.line) closes.1 in
      let from = asked ∙ ap (λ (l : PlainLine). record s { line = l }) (sym same) in
      (id, next, entry, is, inr (refused, subst (λ (l : PlainLine). Advances s.line (asked_in_vain who now q id) l) (sym same) vain, subst (λ (u : Scene). Closes who.client now OutboxFull u t) from closes))
  asks-full (Err f) entry is refused closes = tt

  -- or it isn't
  pub asks-open : {X : Type 0} (r : Result X CoreFault) (entry : Entry) → IsInquiry who.space id q entry
      → IsRefused s.history now (told_to who.client entry) hub.OutboxFull
      → IfErr r (λ f. FailsAt (what.Closed who.client) now m f t) → IfErr r (λ f. FailsToAsk who q now s f t)
  asks-open (Ok x) entry is refused fails = tt
  asks-open (Err f) entry is refused fails =
      let stops = subst (λ (u : Scene). StopsAt u.history now (what.Closed who.client) f) asked fails.0 in
      subst (λ (u : Scene). FailsToAsk who q now s f u) (sym fails.1) (asked, inr (id, next, vain, inr (entry, is, inr (refused, stops))))

  -- there is no memory for the entry, or the command that tells it isn't done
  pub asks-untold : (f : CoreFault) → (f ≡ Memory) ⊎ ((entry : Entry) × IsInquiry who.space id q entry × StopsAt s.history now (told_to who.client entry) f)
      → FailsToAsk who q now s f m
  asks-untold f (inl short) = (asked, inr (id, next, vain, inl short))
  asks-untold f (inr (entry, is, stops)) = (asked, inr (id, next, vain, inr (entry, is, inl stops)))
