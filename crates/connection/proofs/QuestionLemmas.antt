-- An id is answered once; a history one call longer.
use Rattle.std.proofs.Common.{◌≡◌, ◌≢◌, ℕ, ◌+◌, ◌<◌, ◌≤◌, ◌==◌, nat_lt, true, false, not, List, [], ◌∷◌, ◌++◌, None, refl, sym, ap, ◌∙◌, subst, arith}
use Rattle.std.specs.Prelude.{filter, is_some, IsSome}
use Rattle.std.specs.Map.{lookup}
use Rattle.std.proofs.lemmas.Bool.Decides.{nat_tests}
use Rattle.std.proofs.lemmas.List.Elements.{All-cons}
use Rattle.std.proofs.lemmas.Map.Entries.{lookup-filter-keys}
use Rattle.connection.specs.declared.ack_book.Question.{Question}
use Rattle.connection.specs.Questions.{Call, Asked, Answered, Expired, asks, next_id, open_questions, question_at}
use Rattle.connection.specs.Book.{IsLegal, IsUnanswered}
use Rattle.connection.proofs.EntryLemmas.{RisesBetween, RisesBetween-one_more, RisesBetween-filter, lookup-before_last, lookup-in_filter, lookup-below}

-- the ids of the open questions rise, from the first one to below the next one
pub open_questions-rise : (first : ℕ) (h : List Call) → RisesBetween first (next_id first h) (open_questions first h)
unfolding open_questions asks
open_questions-rise first [] = omega arith
open_questions-rise first (Asked tag until ∷ h) =
    let e : first + asks h + 1 ≡ first + (asks h + 1) = omega arith in
    subst (λ high. RisesBetween first high (open_questions first h ++ (next_id first h, record { tag = tag; until = until }) ∷ [])) e
    (RisesBetween-one_more first (next_id first h) (record { tag = tag; until = until }) (open_questions first h) (open_questions-rise first h))
open_questions-rise first (Answered id ∷ h) = RisesBetween-filter (λ e. not (id == e.0)) first (next_id first h) (open_questions first h) (open_questions-rise first h)
open_questions-rise first (Expired now ∷ h) = RisesBetween-filter (λ e. nat_lt now e.1.until) first (next_id first h) (open_questions first h) (open_questions-rise first h)

-- an open question has an id that was used
pub open_is_asked : (first : ℕ) (h : List Call) (id : ℕ) → IsSome (question_at first h id) → id < next_id first h
open_is_asked first h id found = lookup-below id first (next_id first h) (open_questions first h) (open_questions-rise first h) found

-- a call that is no answer to the id leaves it unanswered
one_more : (h : List Call) (id : ℕ) (call : Call) → call ≢ Answered id → IsUnanswered h id → IsUnanswered (call ∷ h) id
one_more h id call other rest = All-cons (λ call. call ≢ Answered id) call h other rest

other_id : (a b : ℕ) → a ≢ b → Answered a ≢ Answered b
other_id a b other same = other (cc (same))

-- an id that was not yet used was not answered
pub unasked_is_unanswered : (first : ℕ) (h : List Call) (id : ℕ) → IsLegal first h → next_id first h ≤ id → IsUnanswered h id
unfolding IsLegal asks
unasked_is_unanswered first [] id legal past = λ k d less. absurd (omega arith)
unasked_is_unanswered first (Asked tag until ∷ h) id legal past =
    one_more h id (Asked tag until) (λ same. cc (same)) (unasked_is_unanswered first h id legal.1 (omega (arith, past)))
unasked_is_unanswered first (Answered other ∷ h) id legal past =
    let used : other < next_id first h = open_is_asked first h other legal.0 in
    one_more h id (Answered other) (other_id other id (λ same. absurd (omega (arith, used, past, same)))) (unasked_is_unanswered first h id legal.1 past)
unasked_is_unanswered first (Expired now ∷ h) id legal past =
    one_more h id (Expired now) (λ same. cc (same)) (unasked_is_unanswered first h id legal past)

below : (a b : ℕ) → nat_lt a b ≡ true → a < b
below a b less = grind (arith, nat_tests)

not_below : (a b : ℕ) → nat_lt a b ≡ false → b ≤ a
not_below a b more = grind (arith, nat_tests)

-- an id that was just answered is not open
answered_is_closed : (id : ℕ) (es : List (ℕ × Question)) → lookup (λ key. id == key) (filter (λ e. not (id == e.0)) es) ≡ None
answered_is_closed id es =
    lookup-filter-keys (λ key. id == key) (λ key. not (id == key)) false (λ key same. ap not same) es

-- an open question was not answered
pub open_is_unanswered : (first : ℕ) (h : List Call) (id : ℕ) → IsLegal first h → IsSome (question_at first h id) → IsUnanswered h id
unfolding IsLegal asks open_questions
open_is_unanswered first [] id legal found = absurd (cc (found))
open_is_unanswered first (Asked tag until ∷ h) id legal found =
    let earlier : IsUnanswered h id =
    (elim (nat_lt id (next_id first h)) as (λ b. nat_lt id (next_id first h) ≡ b → IsUnanswered h id) [
      | true ↦ λ less. open_is_unanswered first h id legal.1
          (sym (ap is_some (lookup-before_last id (next_id first h) (record { tag = tag; until = until }) (open_questions first h) (below id (next_id first h) less))) ∙ found)
      | false ↦ λ more. unasked_is_unanswered first h id legal.1 (not_below id (next_id first h) more)
    ]) refl in
    one_more h id (Asked tag until) (λ same. cc (same)) earlier
open_is_unanswered first (Answered other ∷ h) id legal found =
    let differs : other ≢ id = λ same.
    let gone : lookup (λ key. id == key) (filter (λ (e : ℕ × Question). not (other == e.0)) (open_questions first h)) ≡ None =
    subst (λ n. lookup (λ key. id == key) (filter (λ (e : ℕ × Question). not (n == e.0)) (open_questions first h)) ≡ None) (sym same) (answered_is_closed id (open_questions first h)) in
    absurd (cc (found, gone)) in
    one_more h id (Answered other) (other_id other id differs)
    (open_is_unanswered first h id legal.1 (lookup-in_filter (λ e. not (other == e.0)) (λ key. id == key) (open_questions first h) found))
open_is_unanswered first (Expired now ∷ h) id legal found =
    one_more h id (Expired now) (λ same. cc (same))
    (open_is_unanswered first h id legal (lookup-in_filter (λ e. nat_lt now e.1.until) (λ key. id == key) (open_questions first h) found))
