use Rattle.std.proofs.Common.{◌≡◌, ◌≤◌, length, filter, arith, ◌∙◌, subst, sym}
use Rattle.recovery.specs.SavedTable.{is_alive}
use Rattle.recovery.proofs.SavedTableLemmas.{filter_less}
use Rattle.recovery.proofs.saved_table.SavedTable.sweep.Goals as goal

pub overflow_sub-result : goal.overflow_sub-result
overflow_sub-result c =
    let old = c.args.self.now.sessions in
    let gone : c.take_first_outdated.new.self.sessions ≡ filter (is_alive c.args.keep c.args.now) old =
    sym (rw c.first-test.false at c.take_first_outdated.ensures.none_left) ∙ c.take_first_outdated.ensures.alive.1 ∙ c.first.invariant.1 in
    let fewer = subst (λ xs. length xs ≤ length old) (sym gone) (filter_less (is_alive c.args.keep c.args.now) old) in
    omega (arith, fewer, c.len.ensures, c.len-before.ensures)

pub returns-clause-count : goal.returns-clause-count
returns-clause-count c =
    let old = c.args.self.now.sessions in
    let gone : c.take_first_outdated.new.self.sessions ≡ filter (is_alive c.args.keep c.args.now) old =
    sym (rw c.first-test.false at c.take_first_outdated.ensures.none_left) ∙ c.take_first_outdated.ensures.alive.1 ∙ c.first.invariant.1 in
    let fewer = subst (λ xs. length xs ≤ length old) (sym gone) (filter_less (is_alive c.args.keep c.args.now) old) in
    omega (arith, fewer, c.len.ensures, c.len-before.ensures)
