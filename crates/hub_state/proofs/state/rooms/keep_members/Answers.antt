use Rattle.std.proofs.Common.{rules, tests, ◌≡◌, refl}
use Rattle.room_maps.proofs.RetainLemmas.{filtered_by}
use Rattle.hub_state.proofs.state.rooms.keep_members.Goals as goal

pub returns : goal.returns
returns c =
    filtered_by _ (λ f. (f.0.now ≡ c.args.inside.now) × (f.1.now ≡ c.args.room) × (f.2.now ≡ c.args.members)) _ (λ p x b q i h. search (rules, tests)) _ _ _ (refl, refl, refl) c.retain.ensures.filtered
