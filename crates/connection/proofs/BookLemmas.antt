-- A history one call longer.
use Rattle.std.proofs.Common.{◌≡◌, ℕ, ◌+◌, ◌≤◌, nat_lt, false, cond, nat_cmp, List, ◌∷◌, Option, Some, None, Result, Ok, Err, refl, sym, ap, subst, ◌∙◌, arith}
use Rattle.std.specs.Prelude.{filter, count_by, nat_le, length, is_some, IsSome, IfSome}
use Rattle.std.specs.Map.{lookup, remove_entry}
use Rattle.std.specs.BTreeMap.{insert_entry, is_at}
use Rattle.std.proofs.lemmas.Bool.Decides.{nat_tests}
use Rattle.std.proofs.lemmas.List.Filters.{length-filter_both}
use Rattle.std.proofs.lemmas.List.Sums.{length-filter}
use Rattle.connection.specs.declared.ack_book.Question.{Question}
use Rattle.connection.specs.declared.ack_book.AckError.{AckError}
use Rattle.connection.specs.declared.ack_book.AckError.TheVariants.{Memory, Spent}
use Rattle.connection.specs.Questions.{Call, Asked, Answered, Expired, asks, next_id, open_questions, question_at}
use Rattle.connection.specs.BookContents.{Contents}
use Rattle.connection.specs.Book.{IsLegal, LeadsTo, ForEachHistory, HasHistory, Asks, ask_refusal, last_id}
use Rattle.connection.proofs.EntryLemmas.{insert_entry-last, remove_entry-filter, lookup-same_key}
use Rattle.connection.proofs.QuestionLemmas.{open_questions-rise}

-- a call that leads from each history to the next contents leads from the one that there is
pub one_call_longer : (b next : Contents) (call : Call) → ForEachHistory b (λ first h. LeadsTo first (call ∷ h) next) → HasHistory b → HasHistory next
one_call_longer b next call leads was =
    record { first = was.first; calls = call ∷ was.calls; leads = leads was.first was.calls was.leads }

not_greater : (a b : ℕ) → b ≤ a → nat_lt a b ≡ false
not_greater a b less = grind (arith, nat_tests)

pub leads_asked : (first : ℕ) (h : List Call) (b : Contents) (tag until : ℕ) (entries : List (ℕ × Question)) → b.next ≤ last_id → entries ≡ insert_entry nat_cmp b.questions b.next (record { tag = tag; until = until }) → LeadsTo first h b → LeadsTo first (Asked tag until ∷ h) (record { next = b.next + 1; questions = entries })
unfolding IsLegal asks open_questions
leads_asked first h b tag until entries below is was =
    let question : Question = record { tag = tag; until = until } in
    record {
      legal = (ap (λ spent. cond spent (Some Spent) None) (not_greater last_id (next_id first h) (omega (arith, below, was.next))), was.legal);
      next = omega (arith, was.next);
      questions =
          is
          ∙ ap (λ es. insert_entry nat_cmp es b.next question) was.questions
          ∙ ap (λ id. insert_entry nat_cmp (open_questions first h) id question) was.next
          ∙ insert_entry-last first (next_id first h) question (open_questions first h) (open_questions-rise first h);
    }

-- what the map finds is open after the history
pub found_is_open : (first : ℕ) (h : List Call) (b : Contents) (id : ℕ) → IsSome (lookup (is_at (nat_cmp id)) b.questions) → LeadsTo first h b → IsSome (question_at first h id)
found_is_open first h b id found was =
    sym (ap is_some (ap (lookup (is_at (nat_cmp id))) was.questions ∙ lookup-same_key id (open_questions first h))) ∙ found

pub leads_answered : (first : ℕ) (h : List Call) (b : Contents) (id : ℕ) (entries : List (ℕ × Question)) → IsSome (lookup (is_at (nat_cmp id)) b.questions) → entries ≡ remove_entry (is_at (nat_cmp id)) b.questions → LeadsTo first h b → LeadsTo first (Answered id ∷ h) (record { next = b.next; questions = entries })
unfolding IsLegal asks open_questions
leads_answered first h b id entries found is was =
    record {
      legal = (found_is_open first h b id found was, was.legal);
      next = was.next;
      questions =
          is
          ∙ ap (remove_entry (is_at (nat_cmp id))) was.questions
          ∙ remove_entry-filter id first (next_id first h) (open_questions first h) (open_questions-rise first h);
    }

pub leads_expired : (first : ℕ) (h : List Call) (b : Contents) (now : ℕ) (entries : List (ℕ × Question)) → entries ≡ filter (λ e. nat_lt now e.1.until) b.questions → LeadsTo first h b → LeadsTo first (Expired now ∷ h) (record { next = b.next; questions = entries })
unfolding IsLegal asks open_questions
leads_expired first h b now entries is was =
    record {
      legal = was.legal;
      next = was.next;
      questions = is ∙ ap (filter (λ (e : ℕ × Question). nat_lt now e.1.until)) was.questions;
    }

-- those that an expiry leaves and those that it forgets are all
pub forgotten_by_expiry : (now : ℕ) (questions : List (ℕ × Question)) → length (filter (λ e. nat_lt now e.1.until) questions) + count_by (λ e. nat_le e.1.until now) questions ≡ length questions
forgotten_by_expiry now questions =
    let rest = λ (e : ℕ × Question). nat_le e.1.until now in
    ap (λ n. length (filter (λ (e : ℕ × Question). nat_lt now e.1.until) questions) + n) (sym (length-filter rest questions))
    ∙ length-filter_both (λ e. nat_lt now e.1.until) rest (λ e. grind (arith, nat_tests)) questions

-- a fresh book that was asked in vain, and another that holds the same and stays as it was
pub asks-failed : (b fresh next : Contents) (tag until : ℕ) (e : AckError) → fresh ≡ b → Asks fresh tag until (Err e) next → Asks b tag until (Err e) b
asks-failed b fresh next tag until e is asks =
    let at = subst (λ (n : Contents). Asks n tag until (Err e) next) is asks in
    record { refused = at.refused; memory_alone = at.memory_alone; id = tt; leads = tt; unchanged = refl }

-- or that was asked a question, for which there was no memory in the end
pub asks-short : (b fresh next new : Contents) (tag until id : ℕ) → fresh ≡ b → Asks fresh tag until (Ok id) next → new ≡ b → Asks b tag until (Err Memory) new
asks-short b fresh next new tag until id is asks same =
    let at = subst (λ (n : Contents). Asks n tag until (Ok id) next) is asks in
    record { refused = λ first h leads. on (ask_refusal first h) (at.refused first h leads); memory_alone = λ first h leads free. refl; id = tt; leads = tt; unchanged = same }
  where
    on : (o : Option AckError) → IfSome o (λ e. ◌≡◌ {A = Result ℕ AckError} (Ok id) (Err e)) → IfSome o (λ e. ◌≡◌ {A = Result ℕ AckError} (Err Memory) (Err e))
    on None refused = tt
    on (Some e) refused = absurd (cc refused)
