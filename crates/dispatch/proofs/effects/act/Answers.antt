use Rattle.std.proofs.Common.{◌≡◌, true, rules}
use Rattle.dispatch.specs.Effects.{is_bad}
use Rattle.dispatch.specs.Scene.{seen}
use Rattle.dispatch.proofs.ActLemmas.{bad-stops, ended-is_bad, wrong-is_bad}
use Rattle.dispatch.proofs.effects.act.Goals.{then-scene-via-then-scene, then-scene-via-else-scene+then-is_wrong}
use Rattle.dispatch.proofs.effects.act.Goals as goal

pub returns-then-scene : goal.returns-then-scene
returns-then-scene c =
    let s = seen c.args.scene.now in
    let bad : is_bad s c.args.effect ≡ true = elim c.then-scene.branch [
      | then-scene-via-then-scene w ↦ ended-is_bad s c.args.effect w.if-scene.true
      | then-scene-via-else-scene+then-is_wrong w ↦ wrong-is_bad s c.args.effect (rw (← w.is_wrong.ensures) w.if-is_wrong.true)
    ] in
    record { same = search rules; ok = tt; err = bad-stops c.args.who.now c.args.scene.now.visit.moment s c.args.effect c.is_closed.result c.is_closed.ensures c.if-is_closed.false bad }
