-- The sockets that came with a token that expires, by their own rooms.
use Rattle.std.specs.Prelude.{◌≡◌, ℕ, Bool, true, false, ◌&&◌, is_none, nat_le, List, map, filter, Option, Some, None}
use Rattle.std.specs.Ordering.{is_eq}
use Rattle.std.specs.Map.{lookup}
use Rattle.terms.specs.Room.{room_cmp}
use Rattle.tokens.specs.Claims.{is_late}
use Rattle.guarded.specs.declared.deadlines.Watched.{Watched}
use Rattle.guarded.specs.declared.deadlines.Due.{Due}

-- the rooms are the same
abbrev pub is_room : (room other : List ℕ) → Bool
is_room room other = is_eq (room_cmp room other)

-- what is known of the socket with this own room
abbrev pub known : List (List ℕ × Watched) → (room : List ℕ) → Option Watched
known sockets room = lookup (is_room room) sockets

-- of one socket this becomes known, and of all others what was
pub record Changes (room : List ℕ) (change : Option Watched → Option Watched) (old new : List (List ℕ × Watched)) : Type 0 where
  pub at : known new room ≡ change (known old room)
  pub others : (other : List ℕ) → is_room room other ≡ false → known new other ≡ known old other

-- a socket that has come
abbrev pub newcomer : (space : List ℕ) → (expires : ℕ) → Watched
newcomer space expires = record { space = space; expires = expires; until = None }

-- up to then its session may come back, or it is there
abbrev pub until : Option ℕ → Watched → Watched
until moment watched = record watched { until = moment }

-- it is there, and its token isn't valid any more
abbrev pub is_due : (seconds : ℕ) → Watched → Bool
is_due seconds watched = is_none watched.until && is_late (Some watched.expires) seconds

-- its room and its namespace
abbrev pub due_of : List ℕ × Watched → Due
due_of socket = record { room = socket.0; space = socket.1.space }

-- those that are due
abbrev pub due_at : (seconds : ℕ) → List (List ℕ × Watched) → List Due
due_at seconds sockets = map due_of (filter (λ socket. is_due seconds socket.1) sockets)

-- it is the socket of this room, in the namespace that is known
abbrev pub IsOf : (room : List ℕ) → Watched → Due → Type 0
IsOf room watched due = (is_room room due.room ≡ true) × (due.space ≡ watched.space)

-- the moment isn't over
abbrev pub is_before : (moment : ℕ) → Option ℕ → Bool
is_before moment None = true
is_before moment (Some until) = nat_le moment until

-- it is there, or may come back
abbrev pub stays : (moment : ℕ) → Watched → Bool
stays moment watched = is_before moment watched.until
