use Rattle.std.proofs.Common.{refl, rules, nat_cmp}
use Rattle.std.specs.Ordering.{eq_by_cmp}
use Rattle.std.specs.List.{list_any}
use Rattle.std.specs.Cmp.Rules.{comparing}
use Rattle.std.proofs.lemmas.List.Filters.{dedup_is}
use Rattle.room_maps.proofs.AddressedLemmas.{deduplicated}
use Rattle.room_maps.proofs.links.rising.Goals as goal

pub returns : goal.returns
returns c =
    deduplicated _ (λ x y. search (comparing, rules)) (λ s. list_any (eq_by_cmp nat_cmp s) c.args.sids.items) c.args.sids.items c.sort_unstable.new.self.items c.dedup.new.self.items
    (λ s. refl) c.sort_unstable.ensures.permutation c.sort_unstable.ensures.sorted (dedup_is _ _ _ c.dedup.ensures.filtered)
