use Rattle.std.proofs.Common.{◌≡◌, ◌<◌, ◌≤◌, ◌-◌, Ok, Err, length, arith, refl, rules}
use Rattle.hub_state.specs.EndedSockets.{ended_sockets}
use Rattle.dispatch.specs.Hearing.{HearsOf}
use Rattle.dispatch.specs.Broadcasting.{work}
use Rattle.dispatch.proofs.HearingLemmas.{heard-ended_sockets}
use Rattle.dispatch.proofs.RunsLemmas.{get-some, runs-none, runs-on, run-fails}
use Rattle.dispatch.proofs.hearing.hear_all.Goals as goal

pub loop-index-init : goal.loop-index-init
loop-index-init g c = let none : c.args.from - c.args.from ≡ 0 = omega arith in record { run = rw none (runs-none _ _); same = refl }

pub loop-index-preserved : goal.loop-index-preserved
loop-index-preserved g c =
    let l = c.loop-index in
    let ended = ended_sockets c.args.state.now.base c.args.state.now.journal in
    let long : c.ended_sockets-index-end.result.now ≡ ended = c.ended_sockets-index-end.ensures.all in
    let below : l.index < length ended = rw (← long) c.loop-index-test.true in
    let past : c.args.from ≤ l.index = omega (arith, l.auto.index) in
    let (gone, is) = get-some ended l.index below in
    let heard = c.in_ok-hear_of.ensures gone (rw l.invariant.same is) in
    record {
      run = runs-on (λ a x b. HearsOf (g.A.App.policy c.args.app.now) c.args.visit.client c.args.visit.moment a x (Ok tt) b) c.args.from l.index ended gone _ _ _ past is l.invariant.run heard;
      same = heard-ended_sockets (g.A.App.policy c.args.app.now) c.args.visit.client c.args.visit.moment ended (work l.state l.done) (work c.hear_of.new.state c.hear_of.new.done) gone (Ok tt) l.invariant.same heard;
    }

pub returns-in_err-hear_of : goal.returns-in_err-hear_of
returns-in_err-hear_of g c =
    let l = c.loop-index in
    let ended = ended_sockets c.args.state.now.base c.args.state.now.journal in
    let long : c.ended_sockets-index-end.result.now ≡ ended = c.ended_sockets-index-end.ensures.all in
    let below : l.index < length ended = rw (← long) c.loop-index-test.true in
    let past : c.args.from ≤ l.index = omega (arith, l.auto.index) in
    let (gone, is) = get-some ended l.index below in
    let failed : c.from_residual.result ≡ Err c.in_err-hear_of.field-0.0 = search rules in
    rw failed (run-fails (HearsOf (g.A.App.policy c.args.app.now) c.args.visit.client c.args.visit.moment) c.args.from l.index ended gone _ _ _ _ past is l.invariant.run
    (c.in_err-hear_of.ensures gone (rw l.invariant.same is)))
