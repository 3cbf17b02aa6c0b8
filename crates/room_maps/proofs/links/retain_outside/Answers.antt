use Rattle.std.proofs.Common.{◌≡◌, refl, rules}
use Rattle.room_maps.proofs.RetainLemmas.{filtered_by}
use Rattle.room_maps.proofs.links.retain_outside.Goals as goal

pub returns : goal.returns
returns c = filtered_by _ (λ f. f.0.now ≡ c.args.members.now) _ (λ p x b q i h. search rules) _ _ _ refl c.retain.ensures.filtered
