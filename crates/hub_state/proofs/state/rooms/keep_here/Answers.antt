use Rattle.std.proofs.Common.{rules, ◌≡◌, refl}
use Rattle.room_maps.proofs.RetainLemmas.{filtered_by}
use Rattle.hub_state.proofs.state.rooms.keep_here.Goals as goal

pub returns : goal.returns
returns c =
    filtered_by _ (λ f. (f.0.now ≡ c.args.seats.now) × (f.1.now ≡ c.args.space)) _ (λ p x b q i h. search rules) _ _ _ (refl, refl) c.retain.ensures.filtered
