use Rattle.std.proofs.Common.{rules, ◌≡◌, ◌∙◌, ℕ, slice_index_or, map, [], sym, ap, subst, List, Vec, Global, arith}
use Rattle.std.proofs.lemmas.List.{get_or-map}
use Rattle.loop_rules.specs.Rosters.{AreTold}
use Rattle.loop_rules.proofs.RosterLemmas.{list_more, remembered_on, told_here, told_more, told_on, woken_more}
use Rattle.loop_rules.proofs.roster.Roster.wake_lists.Goals as goal
use Rattle.loop_rules.proofs.roster.Roster.wake_lists.Goals.{then-owner-own, else-owner-own}

pub loop-list-preserved : goal.loop-list-preserved
loop-list-preserved c =
    let f : Vec ℕ Global → List ℕ = λ ids. ids.items in
    let at : c.as_slice-client-items.result.now ≡ slice_index_or (map f c.args.lists.now) c.loop-list.list-index [] =
    c.as_slice-client-items.ensures.value ∙ ap f c.list-item.is
    ∙ sym (get_or-map f c.args.lists.now c.loop-list.list-index c.list-item.result [] c.loop-list-test.true) in
    let here : AreTold c.args.own c.args.loops c.as_slice-client-items.result.now c.loop-client.self c.loop-client.notes =
    λ k below. c.loop-client.invariant.told k (omega (arith, below, c.loop-client-test.false)) in
    record {
      remembers = remembered_on c.args.self.now _ _ c.args.notes.now _ _ c.loop-list.invariant.remembers c.loop-client.invariant.remembers;
      lists = list_more c.args.own c.args.loops (map f c.args.lists.now) c.loop-list.list-index c.loop-client.self c.loop-client.notes c.loop-client.invariant.lists
          (subst (λ cs. AreTold c.args.own c.args.loops cs c.loop-client.self c.loop-client.notes) at here);
    }

pub loop-client-preserved : goal.loop-client-preserved
loop-client-preserved c = elim c.if-owner-own.branch [
  | then-owner-own w ↦
      let is = sym c.loop_of-owner.ensures.of ∙ w.if-owner-own.true in
      rw (w.self-is, w.notes-is) (record {
        remembers = woken_more c.loop-list.self c.loop-client.self w.wake.new.self c.loop-list.notes c.loop-client.notes c.loop-client.invariant.remembers w.wake.ensures.same w.wake.ensures.kept;
        lists = λ k below j inside. told_on c.args.own c.args.loops _ c.loop-client.self w.wake.new.self c.loop-client.notes w.wake.ensures.same w.wake.ensures.kept (c.loop-client.invariant.lists k below j inside);
        told = told_more c.args.own c.args.loops c.as_slice-client-items.result.now c.loop-client.client-index w.wake.new.self c.loop-client.notes
            (λ k below. told_on c.args.own c.args.loops _ c.loop-client.self w.wake.new.self c.loop-client.notes w.wake.ensures.same w.wake.ensures.kept (c.loop-client.invariant.told k below))
            (told_here c.args.own c.args.loops _ w.wake.new.self c.loop-client.notes is w.wake.ensures.woken);
      })
  | else-owner-own w ↦ search rules
]
