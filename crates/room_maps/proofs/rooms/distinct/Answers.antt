use Rattle.std.proofs.Common.{length, sym, ap, ◌∙◌, arith}
use Rattle.std.specs.FinSet as set
use Rattle.terms.specs.Room.{room_cmp}
use Rattle.room_maps.proofs.OrderLemmas.{len-from_cons, len-from_list}
use Rattle.room_maps.proofs.rooms.distinct.Goals as goal

pub rooms-preserved-then-not-contains : goal.rooms-preserved-then-not-contains
rooms-preserved-then-not-contains c =
    let rest = ap (λ xs. set.len (set.from_list {R = room_cmp} xs)) c.in-Some.ensures.cases.0 in
    let size = ap length c.in-Some.ensures.cases.0 in
    let more = len-from_cons c.in-Some.room.now c.in-Some.others.now _ (sym c.contains.ensures.value ∙ c.if-not-contains.true) in
    record { count = omega (arith, rest, more, c.rooms.invariant.count); bound = omega (arith, size, c.rooms.invariant.bound) }

pub rooms-preserved : goal.rooms-preserved
rooms-preserved c =
    let rest = ap (λ xs. set.len (set.from_list {R = room_cmp} xs)) c.in-Some.ensures.cases.0 in
    let size = ap length c.in-Some.ensures.cases.0 in
    let more = len-from_cons c.in-Some.room.now c.in-Some.others.now _ (sym c.contains.ensures.value ∙ c.if-not-contains.false) in
    record { count = omega (arith, rest, more, c.rooms.invariant.count); bound = omega (arith, size, c.rooms.invariant.bound) }

pub returns-clause-count : goal.returns-clause-count
returns-clause-count c =
    let none = len-from_list c.rooms.rest.now in omega (arith, none, c.in_default.ensures.cases, c.rooms.invariant.count)
