-- What is remembered of the addressees that were found.
use Rattle.std.specs.Prelude.{ℕ, List, IfSome}
use Rattle.std.specs.Arc.{arc_value}
use Rattle.std.specs.Ordering.{nat_cmp}
use Rattle.terms.specs.Listing.{ListsRising}
use Rattle.room_maps.specs.Membership.{RoomSets}
use Rattle.room_maps.specs.Addressed.{is_addressed}
use Rattle.room_maps.specs.Remembered.{remembered}
use Rattle.room_maps.specs.declared.remembered.Remembered.{Remembered}
use Rattle.room_maps.specs.declared.asked.Asked.{Asked}

-- these are the sockets for whom a broadcast to the rooms is, but for the excepted ones
abbrev pub Finds : RoomSets → (rooms excepted : List (List ℕ)) → (sids : List ℕ) → Type 0
Finds sets rooms excepted = ListsRising nat_cmp (is_addressed sets rooms excepted)

-- each is what would be found now
abbrev pub AreRight : RoomSets → Remembered Asked → Type 0
AreRight sets asked =
    (k : ℕ) → IfSome (remembered asked k) (λ (a : Asked). Finds sets a.rooms.items a.excepted.items (arc_value a.sids).items)
