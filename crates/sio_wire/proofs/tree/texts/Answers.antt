use Rattle.std.proofs.Common.{◌≡◌, Some, sym, ◌∙◌, ap, arith}
use Rattle.serde_json.specs.Find.{as_str}
use Rattle.serde_json.specs.View.{view}
use Rattle.sio_wire.proofs.JsonFieldsLemmas.{texts_of-more}
use Rattle.sio_wire.proofs.tree.texts.Goals as goal
use Rattle.sio_wire.proofs.tree.texts.Goals.{in-Some+in_ok-copy_of-in-Some, in-None}

pub loop-value-preserved : goal.loop-value-preserved
loop-value-preserved c =
    let text : c.match-as_str.push ≡ as_str (view c.value-item.result) = elim c.match-as_str.branch [
      | in-Some+in_ok-copy_of-in-Some w ↦ w.push-is ∙ (ap Some w.in_ok-copy_of-in-Some.ensures ∙ w.in-Some.ensures)
      | in-None w ↦ w.push-is ∙ w.in-None.ensures
    ] in
    rw (c.in_ok-push.ensures.items, c.loop-value.invariant, text) (sym (texts_of-more c.deref-value-items.result.now c.loop-value.value-index c.value-item.result (omega arith) c.value-item.is))
