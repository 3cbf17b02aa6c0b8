use Rattle.std.proofs.Common.{◌≡◌, ◌∙◌, Global, List, Vec, ap, arith, map, sym, ℕ}
use Rattle.std.proofs.lemmas.List.{length-map}
use Rattle.events.specs.Plain.{PlainDone}
use Rattle.loop_rules.specs.Concerns.{AreToldOf}
use Rattle.loop_rules.proofs.RunLemmas.{Told, none_told, nothing_forgotten, run_more, run_whole, told_by}
use Rattle.loop_rules.proofs.links.Links.wake_for_run.Goals as goal
use Rattle.loop_rules.proofs.links.Links.wake_for_run.Goals.{in-Some+then-not-are_same, in-Some+else-not-are_same, in_default}

pub loop-got-preserved : goal.loop-got-preserved
loop-got-preserved c =
    let f : Vec ℕ Global → List ℕ = λ ids. ids.items in
    let was = c.loop-got.invariant in
    let one = c.loop-got-item.result in
    let before = c.loop-got.self.roster in
    let kept = nothing_forgotten before c.loop-got.notes in
    elim c.match-done_of.branch [
      | in-Some+then-not-are_same w ↦
          let after = w.wake_lists.new.self in
          let notes = w.wake_lists.new.notes in
          let told : Told c.args.own c.args.loops (map f w.lists-clients.result.now) after notes =
          λ k below. w.wake_lists.ensures.told k (omega (arith, below, length-map w.lists-clients.result.now f)) in
          let here : AreToldOf c.args.own c.args.loops one.1 after notes =
          told_by c.args.own c.args.loops one.1 w.in-Some.done.now _ after notes w.in-Some.ensures
          (w.lists-clients.ensures ∙ ap (λ (d : PlainDone). d.clients) w.done.view_is) told in
          rw (w.self-is, w.notes-is, w.told-is) (record {
            run = run_more c.args.own c.args.loops c.args.run.now c.loop-got.got-index one before after c.loop-got.notes notes
                c.loop-got-test.true c.loop-got-item.is w.wake_lists.ensures.remembers was.run here;
            last = told;
            links = was.links;
            takers = w.wake_lists.ensures.remembers.takers ∙ was.takers;
          })
      | in-Some+else-not-are_same w ↦
          let same = w.are_same.ensures.0 w.if-not-are_same.false in
          let here : AreToldOf c.args.own c.args.loops one.1 before c.loop-got.notes =
          told_by c.args.own c.args.loops one.1 w.in-Some.done.now (map f c.loop-got.told.now) before c.loop-got.notes w.in-Some.ensures
          (sym same ∙ w.lists-clients.ensures ∙ ap (λ (d : PlainDone). d.clients) w.done.view_is) was.last in
          rw (w.self-is, w.notes-is, w.told-is) (record {
            run = run_more c.args.own c.args.loops c.args.run.now c.loop-got.got-index one before before c.loop-got.notes c.loop-got.notes
                c.loop-got-test.true c.loop-got-item.is kept was.run here;
            last = was.last;
            links = was.links;
            takers = was.takers;
          })
      | in_default w ↦
          rw (w.self-is, w.notes-is, w.told-is) (record {
            run = run_more c.args.own c.args.loops c.args.run.now c.loop-got.got-index one before before c.loop-got.notes c.loop-got.notes
                c.loop-got-test.true c.loop-got-item.is kept was.run (none_told c.args.own c.args.loops one.1 before c.loop-got.notes w.in_default.ensures);
            last = was.last;
            links = was.links;
            takers = was.takers;
          })
    ]

pub returns : goal.returns
returns c =
    let all = c.loop-got.invariant in
    record {
      told = run_whole c.args.own c.args.loops c.args.run.now c.loop-got.got-index c.loop-got.self.roster c.loop-got.notes
          (omega (arith, c.loop-got-test.false)) all.run;
      links = all.links;
      takers = all.takers;
    }
