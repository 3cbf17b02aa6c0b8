-- What is remembered of the sockets that were found for session ids.
use Rattle.std.specs.Prelude.{◌≡◌, ℕ, IfSome}
use Rattle.std.specs.Arc.{arc_value}
use Rattle.room_maps.specs.Remembered.{remembered}
use Rattle.room_maps.specs.declared.remembered.Remembered.{Remembered}
use Rattle.hub_state.specs.Seats.{SeatMap, seated_in}
use Rattle.hub_state.specs.declared.seats.Found.{Found}

-- each is what would be found now
abbrev pub AreFound : SeatMap → Remembered Found → Type 0
AreFound seats found =
    (k : ℕ) → IfSome (remembered found k) (λ (f : Found). (arc_value f.sockets).items ≡ seated_in f.space seats f.sids.items)
