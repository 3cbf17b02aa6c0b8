use Rattle.std.proofs.Common.{◌+◌, ℕ, length, take, refl, sym, ◌∙◌, ap, is_none, Option, Ok, Err, subst, rules}
use Rattle.std.proofs.lemmas.Option.{slice_get_read}
use Rattle.events.specs.declared.cause.Cause.{Cause}
use Rattle.dispatch.specs.declared.scene.Visit.{Visit}
use Rattle.dispatch.specs.Scene.{seen, visit_of}
use Rattle.dispatch.proofs.RunsLemmas.{runs-none}
use Rattle.dispatch.specs.Packets.{Course, course, HandlesInTurn, HandlesOrBreaks}
use Rattle.dispatch.proofs.PacketLaws.{all-after}
use Rattle.dispatch.proofs.PacketLemmas.{in-turn, out-of-turn, still-open}
use Rattle.dispatch.proofs.RunsLemmas.{runs-take}
use Rattle.dispatch.proofs.TurnLemmas.{working-none}
use Rattle.dispatch.proofs.packets.handle_each.Goals as goal
use Rattle.dispatch.proofs.packets.handle_each.Goals.{then-not-is_closed+in_default, else-not-is_closed}

pub loop-packet-init : goal.loop-packet-init
loop-packet-init g c = record { same = search rules; run = runs-none _ _; count = refl }

pub handle-requires : goal.handle-requires
handle-requires g c =
    let start = seen c.args.scene.now in
    let now = c.loop-packet.scene in
    let open_still = still-open now.state.now now.visit.client now.tally.now.done.closed
    (rw c.loop-packet.invariant.same.visit (all-after c.args.scene.now.visit.client c.args.scene.now.visit.moment c.args.scene.now.state.now (g.A.App.policy c.args.app.now) (take c.loop-packet.packet-index c.args.packets.now)
    (course start (g.I.IdSource.stream c.args.ids.now)) (course (seen c.loop-packet.scene) (g.I.IdSource.stream c.loop-packet.ids)) c.loop-packet.invariant.run
    (record { stays = c.requires.open_client ∙ sym (ap (λ (o : Option Cause). is_none o) c.requires.fresh); has = working-none c.args.scene.now.visit.client c.args.scene.now.state.now start.done.clients })).stays)
    (sym c.is_closed.ensures ∙ c.if-not-is_closed.true) in
    rw c.begin.ensures (open_still.0, open_still.1, refl)

pub loop-packet-preserved : goal.loop-packet-preserved
loop-packet-preserved g c =
    let policy = g.A.App.policy c.args.app.now in
    let visit = visit_of c.args.scene.now.visit in
    let at = course (seen c.loop-packet.scene) (g.I.IdSource.stream c.loop-packet.ids) in
    let more = λ (after : Course) (goes : HandlesOrBreaks policy visit c.packet-item.result at (Ok tt) after).
    runs-take (HandlesInTurn policy visit) c.args.packets.now c.loop-packet.packet-index c.packet-item.result _ _ _ c.loop-packet-test.true c.packet-item.is c.loop-packet.invariant.run goes in
    elim c.if-not-is_closed.branch [
      | then-not-is_closed+in_default w ↦
          let after = course (seen w.handle.new.scene) (g.I.IdSource.stream w.handle.new.ids) in
          let later = c.loop-packet.scene.visit in
          let turn = in-turn policy later.client c.packet-item.result later.moment at (Ok tt) after (sym c.is_closed.ensures ∙ w.if-not-is_closed.true) (rw w.begin.ensures at w.in_default.ensures.1) in
          let goes = subst (λ (v : Visit). HandlesOrBreaks policy (visit_of v) c.packet-item.result at (Ok tt) after) c.loop-packet.invariant.same.visit turn in
          rw (w.scene-is, w.ids-is) (record { same = search rules; run = more after goes; count = ap (λ (n : ℕ). n + 1) c.loop-packet.invariant.count })
      | else-not-is_closed w ↦
          let goes = out-of-turn policy visit.client c.packet-item.result visit.moment at (sym c.is_closed.ensures ∙ w.if-not-is_closed.false) in
          rw (w.scene-is, w.ids-is) (record { same = c.loop-packet.invariant.same; run = more at goes; count = ap (λ (n : ℕ). n + 1) c.loop-packet.invariant.count })
    ]

pub returns-in-Err-clause-err : goal.returns-in-Err-clause-err
returns-in-Err-clause-err g c =
    let policy = g.A.App.policy c.args.app.now in
    let at = course (seen c.loop-packet.scene) (g.I.IdSource.stream c.loop-packet.ids) in
    let after = course (seen c.handle.new.scene) (g.I.IdSource.stream c.handle.new.ids) in
    let visit = c.loop-packet.scene.visit in
    let next = slice_get_read c.args.packets.now (length c.args.packets.now) c.loop-packet.packet-index c.packet-item.result refl c.loop-packet-test.true c.packet-item.is in
    let turn = in-turn policy visit.client c.packet-item.result visit.moment at (Err c.in-Err.stopped) after (sym c.is_closed.ensures ∙ c.if-not-is_closed.true) (rw c.begin.ensures at c.in-Err.ensures.1) in
    let breaks = subst (λ (v : Visit). HandlesOrBreaks policy (visit_of v) c.packet-item.result at (Err c.in-Err.stopped) after) c.loop-packet.invariant.same.visit turn in
    rw c.loop-packet.invariant.count (_, c.loop-packet.invariant.run, c.packet-item.result, next, breaks)
