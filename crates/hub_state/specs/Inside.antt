-- How the fields of a hub's state stand to what contracts see of it.
use Rattle.hub_state.specs.Seats.{seat_at}
use Rattle.std.specs.Prelude.{◌≡◌, nat_eq}
use Rattle.std.specs.Ordering.{nat_cmp}
use Rattle.std.specs.HashMap.{get}
use Rattle.std.specs.BTreeSet as sorted
use Rattle.journal.specs.Journal.{History}
use Rattle.journal.specs.Legal.{IsLegal, IsSound}
use Rattle.journal.specs.Fields.{Fields, Counted}
use Rattle.hub_state.specs.EndedSockets.{ended_sockets}
use Rattle.hub_state.specs.declared.state.State.TheInside.{Inside}

abbrev pub history_of : Inside → History
history_of h = record { base = h.base; limits = h.limits; journal = h.records.steps.steps }

abbrev pub Describes : Inside → Type 0
Describes h =
    Fields h.base h.limits (get nat_eq h.clients) (seat_at h.live.seats) (sorted.contains nat_cmp h.live.pids) h.live.rooms h.saved h.log h.records.last (h.records.steps.steps)
    × IsLegal h.base h.limits (h.records.steps.steps)
    × IsSound h.base h.limits (h.records.steps.steps)
    × Counted h.base h.limits h.records.counts (h.records.steps.steps)
    × (h.ended_sockets.items ≡ ended_sockets h.base (h.records.steps.steps))
