use Rattle.std.proofs.Common.{◌≡◌, ◌∙◌, ap, sym, subst, ℕ, List, [], map, slice_index_or, Vec, Global}
use Rattle.std.proofs.lemmas.List.{get_or-map}
use Rattle.tcp_server.specs.Keeping.{AreNoted}
use Rattle.tcp_server.proofs.NotingLemmas.{each_more}
use Rattle.tcp_server.proofs.keeper.note_lists.Goals as goal

pub loop-list-preserved : goal.loop-list-preserved
loop-list-preserved c =
    let f : Vec ℕ Global → List ℕ = λ ids. ids.items in
    let at : c.as_slice.result.now ≡ slice_index_or (map f c.args.lists.now) c.loop-list.list-index [] =
    c.as_slice.ensures.value ∙ ap f c.list-item.is
    ∙ sym (get_or-map f c.args.lists.now c.loop-list.list-index c.list-item.result [] c.loop-list-test.true) in
    record {
      kept = λ n d was. c.note_all.ensures.kept n d (c.loop-list.invariant.kept n d was);
      noted = each_more (λ ids. AreNoted c.args.loops ids c.note_all.new.notes) (map f c.args.lists.now) [] c.loop-list.list-index
          (λ k below j inside. c.note_all.ensures.kept _ _ (c.loop-list.invariant.noted k below j inside))
          (subst (λ ids. AreNoted c.args.loops ids c.note_all.new.notes) at c.note_all.ensures.noted);
    }
