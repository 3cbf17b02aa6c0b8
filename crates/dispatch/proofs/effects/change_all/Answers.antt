use Rattle.std.proofs.Common.{ap, ◌∙◌, rules}
use Rattle.std.proofs.lemmas.Result.{IfErr-weaker, on_ok_weaker}
use Rattle.events.specs.Selection.{PlainSelection}
use Rattle.dispatch.specs.Effects.{all_joined, all_left}
use Rattle.dispatch.proofs.effects.change_all.Goals as goal

pub returns-then-enters : goal.returns-then-enters
returns-then-enters c =
    let does = rw (c.as_str-space.ensures ∙ ap (λ (m : PlainSelection). m.space) c.selection.view_is, ap (λ (m : PlainSelection). m.rooms) c.selection.view_is, ap (λ (m : PlainSelection). m.excepted) c.selection.view_is) at c.sockets_join-answer.ensures.does in
    rw c.if-enters.true (record {
      same = search rules;
      ok = on_ok_weaker c.change.result (λ each. each _ _ c.args.scene.now.line.now _ _ does) c.change.ensures.ok;
      err = IfErr-weaker c.change.result _ _
          (λ fault each. each c.args.scene.now.state.now c.sockets_join-answer.new.self c.args.scene.now.line.now c.args.scene.now.visit.moment (all_joined c.args.selection c.args.room c.args.scene.now.state.now) does)
          c.change.ensures.err;
    })

pub returns : goal.returns
returns c =
    let does = rw (c.as_str-space.ensures ∙ ap (λ (m : PlainSelection). m.space) c.selection.view_is, ap (λ (m : PlainSelection). m.rooms) c.selection.view_is, ap (λ (m : PlainSelection). m.excepted) c.selection.view_is) at c.sockets_leave-answer.ensures.does in
    rw c.if-enters.false (record {
      same = search rules;
      ok = on_ok_weaker c.change-2.result (λ each. each _ _ c.args.scene.now.line.now _ _ does) c.change-2.ensures.ok;
      err = IfErr-weaker c.change-2.result _ _
          (λ fault each. each c.args.scene.now.state.now c.sockets_leave-answer.new.self c.args.scene.now.line.now c.args.scene.now.visit.moment (all_left c.args.selection c.args.room c.args.scene.now.state.now) does)
          c.change-2.ensures.err;
    })
