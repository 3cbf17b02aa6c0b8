use Rattle.std.proofs.Common.{rules, ◌≡◌}
use Rattle.std.specs.Arc.{arc_value}
use Rattle.room_maps.specs.Asked.{Finds}
use Rattle.room_maps.specs.Mirror.{sets_of}
use Rattle.room_maps.proofs.rooms.Rooms.recalled.Goals as goal

pub returns-in-Some-clause-addressed : goal.returns-in-Some-clause-addressed
returns-in-Some-clause-addressed c =
    let finds = c.in-Some.ensures (sets_of c.self.inside.by_socket) c.self.invariant.2 in
    rw (← c.self.view_is, c.in_ok-try_clone.ensures) finds

pub invariant_of-self : goal.invariant_of-self
invariant_of-self c =
    let made : arc_value c.in_ok-sids.sids ≡ c.in_ok-found.found = search rules in
    let finds : Finds (sets_of c.self.inside.by_socket) c.args.rooms.now c.args.excepted.now (arc_value c.in_ok-sids.sids).items =
    rw (made, c.self.view_is) c.in_ok-found.ensures.addressed in
    (c.self.invariant.0, c.self.invariant.1, c.remember.ensures (sets_of c.self.inside.by_socket) c.self.invariant.2 finds)
