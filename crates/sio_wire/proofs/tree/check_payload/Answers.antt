use Rattle.std.proofs.Common.{inr, ◌∙◌, sym, option_map, true≢false}
use Rattle.serde_json.specs.View.{view}
use Rattle.sio_wire.specs.Texts.{HasPlainNames}
use Rattle.sio_wire.proofs.TextsLemmas.{HasPayload-plain, names_at-alone}
use Rattle.sio_wire.proofs.tree.check_payload.Goals as goal

pub know-requires : goal.know-requires
know-requires c =
    let plain : HasPlainNames c.args.header.now c.in-Some.names.items = rw c.in-Some.is at c.in_ok-names.ensures in
    names_at-alone c.args.header.now.payload c.in-Some.names.items plain.alone

pub returns-in-Some-clause-checked : goal.returns-in-Some-clause-checked
returns-in-Some-clause-checked c = HasPayload-plain c.args.header.now c.in-Some.names.items (rw c.in-Some.is at c.in_ok-names.ensures)

pub returns-then-has_reserved_name-clause-checked : goal.returns-then-has_reserved_name-clause-checked
returns-then-has_reserved_name-clause-checked c =
    inr (
      option_map view c.in_ok-tree.tree,
      rw (← c.as_str.ensures) c.in_ok-tree.ensures.ok,
      sym c.has_shape.ensures ∙ c.if-not-has_shape.false,
      c.has_reserved_name.ensures.0 c.if-has_reserved_name.true,
    )

pub returns-then-not-is_placed-clause-checked : goal.returns-then-not-is_placed-clause-checked
returns-then-not-is_placed-clause-checked c =
    let unplaced = rw c.if-not-is_placed.true at c.is_placed.ensures.1 in
    let unreserved = rw c.if-has_reserved_name.false at c.has_reserved_name.ensures.1 in
    inr (
      option_map view c.in_ok-tree.tree,
      rw (← c.as_str.ensures) c.in_ok-tree.ensures.ok,
      sym c.has_shape.ensures ∙ c.if-not-has_shape.false,
      λ reserved. true≢false (sym (unreserved reserved)),
      λ placed. true≢false (sym (unplaced placed)),
    )
