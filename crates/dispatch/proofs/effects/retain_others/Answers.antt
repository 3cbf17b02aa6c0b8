use Rattle.std.proofs.Common.{rules, ◌≡◌, refl}
use Rattle.room_maps.proofs.RetainLemmas.{filtered_by}
use Rattle.dispatch.proofs.effects.retain_others.Goals as goal

pub returns : goal.returns
returns c = filtered_by _ (λ f. f.0.now ≡ c.args.client) _ (λ p x b q i h. search rules) _ _ _ refl c.retain.ensures.filtered
