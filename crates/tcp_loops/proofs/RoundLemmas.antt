-- What answers, one after another, make of a round.
use Rattle.std.proofs.Common.{◌≡◌, ◌∙◌, ℕ, ◌+◌, ◌<◌, ◌≤◌, List, ap, fold, length, slice_index_or, sym, take}
use Rattle.std.proofs.lemmas.List.{take_all}
use Rattle.std.proofs.lemmas.List.Sums.{fold_more}
use Rattle.events.specs.Answer.{Answer}
use Rattle.loop_rules.specs.Rounds.{after_answer}
use Rattle.loop_rules.specs.declared.rounds.Round.{Round}

abbrev counted : Round → ℕ × Answer → Round
counted round of = after_answer of.1 0 round

-- one answer more counts
pub counted_more : (run : List (ℕ × Answer)) (i : ℕ) (x : ℕ × Answer) (old before after : Round) → i < length run → x ≡ slice_index_or run i x
    → before ≡ fold (λ round of. after_answer of.1 0 round) old (take i run) → after ≡ after_answer x.1 0 before
    → after ≡ fold (λ round of. after_answer of.1 0 round) old (take (i + 1) run)
counted_more run i x old before after below is was now =
    now ∙ ap (after_answer x.1 0) was ∙ ap (counted (fold counted old (take i run))) is ∙ sym (fold_more counted old run i x below)

-- all count
pub counted_all : (run : List (ℕ × Answer)) (i : ℕ) (old new : Round) → length run ≤ i → new ≡ fold (λ round of. after_answer of.1 0 round) old (take i run)
    → new ≡ fold (λ round of. after_answer of.1 0 round) old run
counted_all run i old new over is = is ∙ ap (fold counted old) (take_all i run over)
