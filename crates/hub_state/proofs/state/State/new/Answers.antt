use Rattle.std.proofs.Common.{rules, ◌≡◌, ◌≤◌, ◌∙◌, length, subst, sym, Result, Ok, Err, Some, []}
use Rattle.std.specs.Prelude.{IfOk}
use Rattle.std.specs.Result.{MatchResult}
use Rattle.journal.specs.Plain.{Limits}
use Rattle.journal.proofs.FreshLemmas.{fresh}
use Rattle.hub_state.proofs.EndedLemmas.{nobody-ended, plus}
use Rattle.hub_state.proofs.state.State.new.Goals as goal

abbrev gives : {X : Type 0} (F : Type 0) → X → Result X F
gives F x = Ok x

-- what is said of a result is so of what it gave
gave : {X E : Type 0} (F : Type 0) (r : Result X E) (y : X) (P : X → Type 0) → MatchResult r (λ x. gives F y ≡ gives F x) (λ e. ⊥) → IfOk r P → P y
gave F (Ok x) y P is p = let same : y ≡ x = cc in subst P (sym same) p
gave F (Err e) y P is p = absurd is

pub invariant_of-result : goal.invariant_of-result
invariant_of-result c =
    let few = subst (λ (l : Limits). length l.spaces ≤ 65536) (sym c.in_ok-limits.ensures.ok) (c.is_bad.ensures.few c.if-is_bad.false) in
    let log : c.in_ok-log.log ≡ record { limit = c.in_ok-limits.limits.log; bytes = c.in_ok-limits.limits.log_bytes; next = Some c.in_ok-limits.limits.first_offset; last = 0; entries = [] } =
    subst (λ (l : Limits). c.in_ok-log.log ≡ record { limit = l.log; bytes = l.log_bytes; next = Some l.first_offset; last = 0; entries = [] }) (c.config.view_is ∙ sym c.in_ok-limits.ensures.ok)
    (gave _ c.new.result c.in_ok-log.log _ c.in_ok-log.ensures.cases c.new.ensures.empty) in
    rw (c.empty_base-base.ensures, c.config-config.ensures, c.new-6.ensures)
    (plus (fresh c.in_ok-limits.limits c.in_ok-limits.limits.first_offset _ _ _ _ _ _ (search rules) few (search rules) (search rules) (search rules) (search rules) c.kept_facts.ensures (search rules) log)
    (nobody-ended _ _ (search rules)))
