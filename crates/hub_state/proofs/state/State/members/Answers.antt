use Rattle.hub_state.specs.Seats.{seat_at}
use Rattle.room_maps.specs.Membership.{is_in}
use Rattle.journal.specs.Membership.{rooms}
use Rattle.journal.proofs.MembersLemmas.{here-members}
use Rattle.hub_state.proofs.state.State.members.Goals as goal

pub returns-clause-members : goal.returns-clause-members
returns-clause-members c =
    let base = c.self.inside.base in
    let journal = c.self.inside.records.steps.steps in
    let inside = rw c.self.invariant.0.rooms_are at c.in-Ok.ensures.members in
    rw (← c.in_ok-place.ensures.place, ← c.self.view_is, c.keep_here.ensures)
    (here-members base journal c.self.invariant.2.sockets_apart (seat_at c.self.inside.live.seats) c.self.invariant.0.seats c.in_ok-place.place (λ s. is_in (rooms base journal) s c.args.room) c.in-Ok.sids.items inside)
