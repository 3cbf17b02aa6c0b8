use Rattle.hub_state.specs.Seats.{seat_at}
use Rattle.std.proofs.Common.{◌&&◌, not, sym, ◌∙◌}
use Rattle.std.specs.List.{list_any}
use Rattle.std.specs.Ordering.{nat_cmp}
use Rattle.terms.specs.Listing.{ListsRising}
use Rattle.room_maps.specs.Membership.{is_in}
use Rattle.journal.specs.Casting.{is_here}
use Rattle.journal.proofs.AimLemmas.{everybody, kept, none_named}
use Rattle.hub_state.proofs.state.State.listeners.Goals as goal

pub returns-then-is_empty : goal.returns-then-is_empty
returns-then-is_empty c =
    let here : ListsRising nat_cmp (λ s. is_here c.args.space (seat_at c.self.inside.live.seats s) && not (list_any (is_in c.self.inside.live.rooms s) c.args.excepted.now)) c.retain_outside.new.sids.items =
    rw c.retain_outside.ensures (kept _ _ _ c.in_ok-sids.ensures) in
    let lists = rw c.self.invariant.0.rooms_are at here in
    record {
      ok =
          rw (none_named c.args.rooms.now (sym c.is_empty.ensures ∙ c.if-is_empty.true), ← c.self.view_is)
          (everybody c.self.inside.base c.self.inside.limits c.self.inside.records.steps.steps c.self.invariant.2 (seat_at c.self.inside.live.seats) c.self.invariant.0.seats c.args.space c.args.excepted.now c.retain_outside.new.sids.items lists);
    }
