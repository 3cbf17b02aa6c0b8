use Rattle.hub_state.specs.Seats.{seat_at}
use Rattle.journal.specs.Membership.{matches, sid_of, sockets}
use Rattle.journal.proofs.ManySocketsLemmas.{matching-lists, listed}
use Rattle.hub_state.proofs.state.State.selected.Goals as goal

pub returns-clause-selected : goal.returns-clause-selected
returns-clause-selected c =
    let base = c.self.inside.base in
    let limits = c.self.inside.limits in
    let journal = c.self.inside.records.steps.steps in
    let place = c.in_ok-place.place in
    let named = c.args.rooms.now in
    let excepted = c.args.excepted.now in
    let inside = rw (← c.self.view_is) at c.in_ok-sids.ensures.ok in
    let lists = rw (← c.keep_here.ensures) at (matching-lists base limits journal c.self.invariant.2 (seat_at c.self.inside.live.seats) c.self.invariant.0.seats place named excepted c.in_ok-sids.sids.items inside) in
    rw (← c.in_ok-place.ensures.place, ← c.self.view_is)
    (listed sid_of (matches base journal place named excepted) (sockets base journal) c.keep_here.new.sids.items lists)
