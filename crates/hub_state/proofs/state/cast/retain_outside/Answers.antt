use Rattle.std.proofs.Common.{rules, ◌≡◌, refl}
use Rattle.room_maps.proofs.RetainLemmas.{filtered_by}
use Rattle.hub_state.proofs.state.cast.retain_outside.Goals as goal

pub returns : goal.returns
returns c =
    filtered_by _ (λ f. (f.0.now ≡ c.args.inside.now) × (f.1.now ≡ c.args.rooms.now)) _ (λ p x b q i h. search rules) _ _ _ (refl, refl) c.retain.ensures.filtered
