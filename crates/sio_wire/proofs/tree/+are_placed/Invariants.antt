use Rattle.std.proofs.Common.{◌↔◌, drop}
use Rattle.serde_json.specs.View.{view, items_view, members_view}
use Rattle.sio_wire.specs.Placeholders.{Placed, PlacedItems, PlacedMembers}
use Rattle.sio_wire.proofs.tree.+are_placed.Given as goal

-- all are placed exactly if those that are left are
abbrev pub invariant-loop-item : goal.invariant-loop-item
invariant-loop-item l =
    Placed (view l.value) l.count ↔ PlacedItems (items_view (drop l.item-index l.item-items)) l.count

abbrev pub invariant-loop-name : goal.invariant-loop-name
invariant-loop-name l =
    (goal.iterator-loop-name).can_next l._name-iterator ×
    (goal.iterator-loop-name).is_finite l._name-iterator ×
    (Placed (view l.value) l.count ↔ PlacedMembers (members_view l._name-iterator) l.count)
