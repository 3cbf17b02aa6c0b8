use Rattle.std.proofs.Common.{◌≡◌, ℕ, ◌+◌, ◌-◌, ◌*◌, ◌/◌, ◌%◌, ◌≤◌, ◌<◌, Some, true, false, min, subst, sym, rules}
use Rattle.std.proofs.lemmas.Grind.{div_ceil_times}
use Rattle.loop_rules.specs.Paces.{allowance, may_bring}
use Rattle.loop_rules.proofs.PaceLemmas.{held_before, comes_at, first_is}
use Rattle.loop_rules.proofs.paces.Paces.moment_for.Goals as goal

pub returns-clause-held : goal.returns-clause-held
returns-clause-held c t later early =
    let pace = c.args.self.now.pace in
    let lack = c.in-Some.lack in
    let known : Some lack ≡ allowance c.args.self.now c.args.client = search rules in
    let l = c.left-left.result in
    let s : ℕ = 1000 * (pace.burst - c.args.count) in
    let w_is : c.div_ceil-wait.result ≡ (l - s) / pace.rate + min 1 ((l - s) % pace.rate) = search rules in
    let wait = subst (λ w. (l - s ≤ w * pace.rate) × (w * pace.rate < (l - s) + pace.rate)) (sym w_is) (div_ceil_times (l - s) pace.rate c.args.self.now.some) in
    subst (λ o. may_bring pace c.args.count t o ≡ false) known
    (held_before lack.lacks lack.since pace.rate s pace.stretch c.args.now t c.div_ceil-wait.result l c.left-left.ensures
    (search rules) (search rules) wait (search rules) (search rules) later)

pub returns-clause-comes : goal.returns-clause-comes
returns-clause-comes c soon =
    let pace = c.args.self.now.pace in
    let lack = c.in-Some.lack in
    let known : Some lack ≡ allowance c.args.self.now c.args.client = search rules in
    let l = c.left-left.result in
    let s : ℕ = 1000 * (pace.burst - c.args.count) in
    let w_is : c.div_ceil-wait.result ≡ (l - s) / pace.rate + min 1 ((l - s) % pace.rate) = search rules in
    let wait = subst (λ w. (l - s ≤ w * pace.rate) × (w * pace.rate < (l - s) + pace.rate)) (sym w_is) (div_ceil_times (l - s) pace.rate c.args.self.now.some) in
    subst (λ o. may_bring pace c.args.count c.min.result o ≡ true) known
    (comes_at lack.lacks lack.since pace.rate s pace.stretch c.args.now c.div_ceil-wait.result l c.min.result c.left-left.ensures wait.0
    (first_is _ _ c.saturating_add-full.result c.saturating_add-most.result c.min.result (search rules) (search rules) (search rules) soon))
