use Rattle.std.proofs.Common.{◌≡◌, take}
use Rattle.serde_json.specs.View.{items_view}
use Rattle.sio_wire.specs.JsonFields.{texts_of}
use Rattle.sio_wire.proofs.tree.texts.Given as goal

abbrev pub invariant-loop-value : goal.invariant-loop-value
invariant-loop-value l = l.found.items ≡ texts_of (items_view (take l.value-index l.value-items))
