use Rattle.std.proofs.Common.{◌≡◌, Ok, Err, List, length, rules, subst, sym}
use Rattle.journal.proofs.CastLemmas.{split-more}
use Rattle.events.specs.declared.app.Effect.{Effect}
use Rattle.dispatch.specs.Hearing.{Sends}
use Rattle.dispatch.specs.Runs.{Runs}
use Rattle.dispatch.specs.Broadcasting.{work}
use Rattle.dispatch.proofs.RunsLemmas.{runs-more, runs-none, take-done, get-next}
use Rattle.dispatch.proofs.hearing.send_all.Goals as goal

pub loop-effect-init : goal.loop-effect-init
loop-effect-init c = record { run = runs-none _ _; split = search rules }

pub loop-effect-preserved : goal.loop-effect-preserved
loop-effect-preserved c =
    let l = c.loop-effect in
    let sent = c.in_ok-send.ensures in
    record {
      run = runs-more (λ a x b. Sends c.args.visit.client c.args.visit.moment a x (Ok tt) b) l.yielded c.in-Some.effect _ _ _ l.invariant.run sent;
      split = split-more _ l.yielded _ c.next.new.self.rest.items c.in-Some.effect l.invariant.split c.in-Some.ensures.steps.0;
    }

pub returns-in_err-send : goal.returns-in_err-send
returns-in_err-send c =
    let l = c.loop-effect in
    let is : c.from_residual.result ≡ Err c.in_err-send.field-0.0 = search rules in
    rw is (
      length l.yielded,
      (
        work l.state l.done,
        subst (λ (xs : List Effect). Runs (λ a x b. Sends c.args.visit.client c.args.visit.moment a x (Ok tt) b) xs (work c.args.state.now c.args.done.now) (work l.state l.done))
            (sym (take-done c.args.effects.items l.yielded _ l.invariant.split)) l.invariant.run,
        c.in-Some.effect,
        get-next c.args.effects.items l.yielded _ c.next.new.self.rest.items c.in-Some.effect l.invariant.split c.in-Some.ensures.steps.0,
        c.in_err-send.ensures,
      ),
    )
