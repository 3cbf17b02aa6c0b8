use Rattle.std.proofs.Common.{◌≡◌, ℕ, List, ap, sym, subst, map}
use Rattle.std.specs.Ordering.{nat_cmp}
use Rattle.std.specs.List.Sorted.{IsStrictlySortedBy}
use Rattle.std.specs.Map.{keys_of, values_of}
use Rattle.recovery.specs.SavedTable.{PlainSaved, IsKeyed}
use Rattle.recovery.proofs.SavedTableLemmas.{pids_rise}
use Rattle.recovery.proofs.saved_table.SavedTable.list.Goals as goal

rises : (by_pid : List (ℕ × PlainSaved)) (sessions : List PlainSaved) → values_of by_pid ≡ sessions → IsKeyed by_pid → IsStrictlySortedBy nat_cmp (keys_of by_pid) → IsStrictlySortedBy nat_cmp (map (λ (s : PlainSaved). s.pid) sessions)
rises by_pid sessions same keyed rise =
    subst (λ l. IsStrictlySortedBy nat_cmp (map (λ (s : PlainSaved). s.pid) l)) same
    (subst (IsStrictlySortedBy nat_cmp) (sym (pids_rise by_pid keyed)) rise)

pub returns-clause-rises : goal.returns-clause-rises
returns-clause-rises c = rises c.self.inside.by_pid.entries _ (ap (λ t. t.sessions) c.self.view_is) c.self.invariant.keyed c.self.invariant.rises

pub returns-in_err-list-clause-rises : goal.returns-in_err-list-clause-rises
returns-in_err-list-clause-rises c = rises c.self.inside.by_pid.entries _ (ap (λ t. t.sessions) c.self.view_is) c.self.invariant.keyed c.self.invariant.rises

pub returns-in_err-copy-clause-rises : goal.returns-in_err-copy-clause-rises
returns-in_err-copy-clause-rises c = rises c.self.inside.by_pid.entries _ (ap (λ t. t.sessions) c.self.view_is) c.self.invariant.keyed c.self.invariant.rises

pub returns-in_err-push-clause-rises : goal.returns-in_err-push-clause-rises
returns-in_err-push-clause-rises c = rises c.self.inside.by_pid.entries _ (ap (λ t. t.sessions) c.self.view_is) c.self.invariant.keyed c.self.invariant.rises
