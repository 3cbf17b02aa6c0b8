use Rattle.std.proofs.Common.{rules}
use Rattle.std.proofs.lemmas.Map.Made.{filter_same_pairs}
use Rattle.peers.specs.Noops.{is_recent}
use Rattle.loop_rules.proofs.DelayLemmas.{found_recent}
use Rattle.loop_rules.proofs.delays.Delays.forget_old.Goals as goal

pub returns-clause-told : goal.returns-clause-told
returns-clause-told c client =
    let kept = filter_same_pairs _ (λ e. is_recent e.1 c.args.now) _ (λ k v b w f' t. search rules) _ _ c.retain.ensures.filtered in
    found_recent c.args.now client _ _ kept c.retain.ensures.was_unique
