-- The connected sockets by their session ids, and an index of their session ids by namespaces.
use Rattle.std.specs.Prelude.{◌≡◌, ℕ, ◌==◌, nat_eq, List, Option, None, Some, if◌then◌else◌}
use Rattle.std.specs.declared.cmp.Ordering.{Ordering}
use Rattle.std.specs.Ordering.{nat_cmp, ordering_then}
use Rattle.std.specs.Map.{lookup}
use Rattle.std.specs.List.{flat_map}
use Rattle.std.specs.BTreeSet.{BTreeSet}
use Rattle.std.specs.BTreeSet as sorted
use Rattle.journal.specs.declared.socket.Socket.{Socket}
use Rattle.journal.specs.Casting.{in_space, is_here}

-- sockets, each with its session id
abbrev pub SeatMap : Type 0
SeatMap = List (ℕ × Socket)

-- the socket with a session id
abbrev pub seat_at : SeatMap → ℕ → Option Socket
seat_at seats sid = lookup (nat_eq sid) seats

-- pairs of a place and a session id, in the order of the places, those of one place in that of the ids
abbrev pub seat_cmp : ℕ × ℕ → ℕ × ℕ → Ordering
seat_cmp a b = ordering_then (nat_cmp a.0 b.0) (nat_cmp a.1 b.1)

-- the index has a session id at a place exactly where the socket with this id is in the namespace at this place
pub record IsIndex (by_sid : SeatMap) (by_space : BTreeSet (ℕ × ℕ)) : Type 0 where
  pub mirror : (space sid : ℕ) → sorted.contains seat_cmp by_space (space, sid) ≡ is_here space (seat_at by_sid sid)

-- the same sockets
abbrev pub SameSeats : SeatMap → SeatMap → Type 0
SameSeats old new = (s : ℕ) → seat_at new s ≡ seat_at old s

-- one socket more, instead of one with its session id
abbrev pub WithSeat : Socket → SeatMap → SeatMap → Type 0
WithSeat socket old new = (s : ℕ) → seat_at new s ≡ (if socket.sid == s then Some socket else seat_at old s)

-- without the socket of a session id, if there is one
abbrev pub WithoutSeat : ℕ → SeatMap → SeatMap → Type 0
WithoutSeat sid old new = (s : ℕ) → seat_at new s ≡ (if sid == s then None else seat_at old s)

-- the sockets in the namespace at a place that have these session ids, in the same order
abbrev pub seated_in : ℕ → SeatMap → List ℕ → List Socket
seated_in space seats sids = flat_map (λ s. in_space space (seat_at seats s)) sids
