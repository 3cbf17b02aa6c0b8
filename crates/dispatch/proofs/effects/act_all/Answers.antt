use Rattle.std.proofs.Common.{ℕ, ap, List, length, arith, sym, subst, rules}
use Rattle.std.proofs.lemmas.List.{length_push}
use Rattle.journal.proofs.CastLemmas.{split-more}
use Rattle.events.specs.declared.app.Effect.{Effect}
use Rattle.dispatch.specs.declared.scene.Visit.{Visit}
use Rattle.dispatch.specs.Effects.{ActsInTurn, Stops}
use Rattle.dispatch.specs.Runs.{Runs}
use Rattle.dispatch.specs.Scene.{seen}
use Rattle.dispatch.proofs.ActLemmas.{stands}
use Rattle.dispatch.proofs.RunsLemmas.{runs-more, runs-none, take-done, get-next}
use Rattle.dispatch.proofs.effects.act_all.Goals as goal

pub loop-effect-init : goal.loop-effect-init
loop-effect-init c = record {
  same = search rules;
  run = runs-none _ _;
  split = search rules;
  stands = c.requires.acting.1;
  count = search rules;
}

pub loop-effect-preserved : goal.loop-effect-preserved
loop-effect-preserved c =
    let moment = ap (λ (v : Visit). v.moment) c.loop-effect.invariant.same.visit in
    let acts = subst (λ (now : ℕ). ActsInTurn c.args.who.now now (seen c.loop-effect.scene) c.in-Some.effect (seen c.act.new.scene)) moment c.in_default.ensures.ok in record {
      same = search rules;
      run = runs-more (ActsInTurn c.args.who.now c.args.scene.now.visit.moment) c.loop-effect.yielded c.in-Some.effect _ _ _ c.loop-effect.invariant.run acts;
      split = split-more _ c.loop-effect.yielded _ c.next.new.self.rest.items c.in-Some.effect c.loop-effect.invariant.split c.in-Some.ensures.steps.0;
      stands = stands c.args.who.now c.args.scene.now.visit.moment _ _ c.in-Some.effect c.loop-effect.invariant.stands acts;
      count = let more = length_push c.loop-effect.yielded c.in-Some.effect in let count = c.loop-effect.invariant.count in omega arith;
    }

pub returns-in-Err-clause-err : goal.returns-in-Err-clause-err
returns-in-Err-clause-err c =
    let yielded = c.loop-effect.yielded in
    let now = c.args.scene.now.visit.moment in
    let at = seen c.loop-effect.scene in (
      length yielded,
      c.loop-effect.invariant.count,
      (
        at,
        subst (λ (xs : List Effect). Runs (ActsInTurn c.args.who.now now) xs (seen c.args.scene.now) at) (sym (take-done c.args.wanted.items yielded _ c.loop-effect.invariant.split)) c.loop-effect.invariant.run,
        c.in-Some.effect,
        get-next c.args.wanted.items yielded _ c.next.new.self.rest.items c.in-Some.effect c.loop-effect.invariant.split c.in-Some.ensures.steps.0,
        subst (λ (moment : ℕ). Stops c.args.who.now moment at c.in-Some.effect c.in-Err.fault (seen c.act.new.scene)) (ap (λ (v : Visit). v.moment) c.loop-effect.invariant.same.visit) c.in-Err.ensures.err,
      ),
    )

pub act-requires : goal.act-requires
act-requires c = (search rules, c.loop-effect.invariant.stands)
