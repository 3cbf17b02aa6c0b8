use Rattle.std.proofs.Common.{◌≡◌, ℕ, ◌==◌, true, false, sym, ap, subst, ◌∙◌}
use Rattle.std.specs.List.{list_any, slice_get}
use Rattle.std.specs.Option.{IfSome}
use Rattle.std.specs.Ordering.{is_gt}
use Rattle.std.specs.BTreeMap.{is_at}
use Rattle.recovery.specs.SavedTable.{pair_cmp, has_sid}
use Rattle.recovery.proofs.SavedTableLemmas.{none_from, first_from}
use Rattle.recovery.proofs.saved_table.SavedTable.has_sid.Goals as goal

pub returns-in-None : goal.returns-in-None
returns-in-None c =
    sym (none_from (λ s. s.sid) c.args.sid c.new.result c.new.ensures c.self.inside.by_pid.entries c.self.inside.by_sid.keys c.self.invariant.rises c.self.invariant.sids
    (λ q above. (c.range.ensures.in_range tt).5 c.in-None.ensures.steps.0 q (above, tt)))
    ∙ ap (λ v. has_sid v c.args.sid) c.self.view_is

-- the first pair from here on
pub returns-in-Some : goal.returns-in-Some
returns-in-Some c =
    let first = ap (λ ks. slice_get ks 0) c.in-Some.ensures.steps in
    let here = subst (λ o. IfSome o (λ k. ((is_gt (pair_cmp (c.args.sid, c.new.result) k) ≡ false) × Unit {0}) × (list_any (is_at (pair_cmp k)) c.self.inside.by_sid.keys ≡ true))) first (c.range.ensures.in_range tt).1 in
    let least : (q : ℕ × ℕ) → is_gt (pair_cmp (c.args.sid, c.new.result) q) ≡ false → list_any (is_at (pair_cmp q)) c.self.inside.by_sid.keys ≡ true → is_gt (pair_cmp c.in-Some.field-0.now q) ≡ false =
    λ q above stands. subst (λ o. IfSome o (λ k. is_gt (pair_cmp k q) ≡ false)) first ((c.range.ensures.in_range tt).2 q (above, tt) stands) in
    let same : c.eq.result ≡ (c.in-Some.field-0.now.0 == c.args.sid) = c.eq.ensures in
    same
    ∙ first_from (λ s. s.sid) c.args.sid c.new.result c.new.ensures c.self.inside.by_pid.entries c.self.inside.by_sid.keys c.in-Some.field-0.now c.self.invariant.rises c.self.invariant.sids here.1 here.0.0 least
    ∙ ap (λ v. has_sid v c.args.sid) c.self.view_is
