use Rattle.std.proofs.Common.{Ok, Bool, ℕ, not, rules, tests, if◌then◌else◌}
use Rattle.std.proofs.lemmas.Iterator.{items_from_collect, YieldsList-from_slice}
use Rattle.std.proofs.lemmas.Iterator.Consumers.{YieldsList-from_copied, YieldsList-from_filter}
use Rattle.room_maps.specs.Membership.{is_in}
use Rattle.room_maps.proofs.TogetherLemmas.{chosen}
use Rattle.room_maps.proofs.rooms.Rooms.those.Goals as goal

pub returns : goal.returns
returns c =
    let test : ℕ → Bool = λ s. if c.args.inside then is_in c.args.self.now s c.args.room else not (is_in c.args.self.now s c.args.room) in
    chosen test c.args.sids.now c.in_ok-those.those.items c.rising.result.items
    (items_from_collect {E = Unit {0}} (Ok c.in_ok-those.those) c.in_ok-those.ensures.ran
    (YieldsList-from_filter _ test
    (YieldsList-from_copied (YieldsList-from_slice c.args.sids.now cc)) c.filter.ensures.closure (λ x r q k. search (rules, tests))))
    c.rising.ensures
