use Rattle.hub_state.specs.Seats.{seat_at}
use Rattle.std.proofs.Common.{◌≡◌, take}
use Rattle.std.specs.List.{flat_map}
use Rattle.journal.specs.Casting.{in_space}
use Rattle.hub_state.proofs.state.cast.sockets_in.Given as goal

abbrev pub invariant-loop-sid : goal.invariant-loop-sid
invariant-loop-sid l = l.sockets.items ≡ flat_map (λ s. in_space l.space (seat_at l.seats s)) (take l.sid-index l.sids)
