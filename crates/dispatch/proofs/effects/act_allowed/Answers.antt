use Rattle.std.proofs.Common.{rules}
use Rattle.std.proofs.lemmas.Result.{IfErr-weaker, on_ok_weaker}
use Rattle.journal.specs.declared.step.What.TheVariants.{Joined, Left}
use Rattle.dispatch.proofs.effects.act_allowed.Goals as goal

pub returns-in-Join : goal.returns-in-Join
returns-in-Join c = rw c.in-Join.is (record {
  same = search rules;
  ok = on_ok_weaker c.change.result (λ each. each _ _ c.args.scene.now.line.now _ _ c.join-answer.ensures) c.change.ensures.ok;
  err = IfErr-weaker c.change.result _ _
      (λ fault each. each c.args.scene.now.state.now c.join-answer.new.self c.args.scene.now.line.now c.args.scene.now.visit.moment (Joined c.args.who.now.sid c.in-Join.room) c.join-answer.ensures)
      c.change.ensures.err;
})

pub returns-in-Leave : goal.returns-in-Leave
returns-in-Leave c = rw c.in-Leave.is (record {
  same = search rules;
  ok = on_ok_weaker c.change-in-Leave.result (λ each. each _ _ c.args.scene.now.line.now _ _ c.leave-answer.ensures) c.change-in-Leave.ensures.ok;
  err = IfErr-weaker c.change-in-Leave.result _ _
      (λ fault each. each c.args.scene.now.state.now c.leave-answer.new.self c.args.scene.now.line.now c.args.scene.now.visit.moment (Left c.args.who.now.sid c.in-Leave.room) c.leave-answer.ensures)
      c.change-in-Leave.ensures.err;
})
