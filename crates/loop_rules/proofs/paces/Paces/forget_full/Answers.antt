use Rattle.std.proofs.Common.{nat_lt, Some, rules}
use Rattle.std.proofs.lemmas.Map.Made.{filter_same_pairs}
use Rattle.loop_rules.specs.Paces.{left}
use Rattle.loop_rules.proofs.PaceLemmas.{found_kept}
use Rattle.loop_rules.proofs.paces.Paces.forget_full.Goals as goal

pub returns-clause-forgotten : goal.returns-clause-forgotten
returns-clause-forgotten c client =
    let kept = filter_same_pairs _ (λ e. nat_lt 0 (left c.args.self.now.pace.rate c.args.now (Some e.1))) _ (λ k v b w f' t. search rules) _ _ c.retain.ensures.filtered in
    found_kept c.args.self.now.pace.rate c.args.now client _ _ kept c.retain.ensures.was_unique
