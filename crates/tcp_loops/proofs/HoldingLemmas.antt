-- How many events may bring packets yet.
use Rattle.std.proofs.Common.{◌+◌, ◌-◌, ◌<◌, ◌≤◌, ℕ, Bool, true, false, List, [], ◌∷◌, ◌++◌, cond, arith}
use Rattle.std.proofs.lemmas.List.Sums.{sum_by_push}
use Rattle.events.specs.declared.event.Event.{Event}
use Rattle.tcp_loops.specs.Holding.{is_large, left_after, saying_count, says}

left-by : (large spoke : Bool) (count saying : ℕ) → 0 < saying → (count + cond spoke 1 0) + cond large 0 (cond spoke (saying - 1) saying) ≤ count + saying
left-by true true count saying some = omega (arith, some)
left-by true false count saying some = omega (arith, some)
left-by false true count saying some = omega (arith, some)
left-by false false count saying some = omega (arith, some)

-- with one event more
pub saying-more : {O : Type 0} (brought : List (O × (Event × ℕ))) (of : O) (e : Event) (moment saying : ℕ) → 0 < saying
    → saying_count (brought ++ (of, (e, moment)) ∷ []) + left_after e saying ≤ saying_count brought + saying
saying-more brought of e moment saying some =
    rw (sum_by_push (λ b. cond (says b.1.0) 1 0) brought (of, (e, moment))) (left-by (is_large e) (says e) (saying_count brought) saying some)
