use Rattle.std.proofs.Common.{◌&&◌, not, ap, ◌∙◌}
use Rattle.std.specs.Ordering.{eq_by_cmp}
use Rattle.room_maps.specs.Links.{is_linked}
use Rattle.room_maps.proofs.LinksLemmas.{unlink_more}
use Rattle.room_maps.proofs.links.unlink_all.Goals as goal

pub loop-key-preserved : goal.loop-key-preserved
loop-key-preserved g c = record {
  links = λ k v.
      c.unlink.ensures.links k v
      ∙ ap (λ x. not (eq_by_cmp g.K.Ord.cmp c.in-Some.key k && eq_by_cmp g.V.Ord.cmp c.args.value.now v) && x) (c.loop-key.invariant.links k v)
      ∙ unlink_more g.met.K.Ord.total c.loop-key.yielded c.in-Some.key k (eq_by_cmp g.V.Ord.cmp c.args.value.now v) (is_linked g.K.Ord.cmp g.V.Ord.cmp c.args.map.now k v);
  filled = λ h. c.unlink.ensures.filled (c.loop-key.invariant.filled h);
}
