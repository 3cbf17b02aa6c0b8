-- Who is in which room, asked of the last step that speaks of it (Socket.IO server
-- documentation, "Rooms").
use Rattle.std.specs.Prelude.{ℕ, ◌==◌, Bool, true, false, ◌&&◌, List, [], ◌∷◌, filter, Option, Some, None, unwrap_or, if◌then◌else◌}
use Rattle.std.specs.List.{list_any}
use Rattle.terms.specs.Room.{same_room, own_room}
use Rattle.room_maps.specs.Membership.{is_in}
use Rattle.journal.specs.declared.socket.Socket.{Socket}
use Rattle.journal.specs.declared.step.Step.{Step}
use Rattle.journal.specs.declared.step.What.{What}
use Rattle.journal.specs.declared.step.What.TheVariants.{Attached, Recovered, Joined, Left, AllJoined, AllLeft, Parked, Ended, AllEnded, Closed}
use Rattle.journal.specs.Plain.{PlainBase}
use Rattle.journal.specs.Membership.{ends, sockets, sockets_of, rooms}

-- one of these is the socket with this session id
abbrev pub is_among : List Socket → ℕ → Bool
is_among ks s = list_any (λ (k : Socket). k.sid == s) ks

-- what a step says of a socket and a room: that the socket is in it, that it isn't, or
-- nothing. A new socket is in its own room, one that came back also in its rooms; a
-- socket that ends is in none
abbrev pub word : PlainBase → List Step → ℕ → List ℕ → What → Option Bool
word base before s room (Attached k) =
    if k.sid == s && same_room (own_room k.sid) room then Some true else None
word base before s room (Recovered r) =
    if r.socket.sid == s && list_any (same_room room) (own_room r.socket.sid ∷ r.rooms)
    then Some true
    else None
word base before s room (Joined t other) =
    if t == s && same_room other room then Some true else None
word base before s room (Left t other) = if t == s && same_room other room then Some false else None
word base before s room (AllJoined m) =
    if list_any (λ t. s == t) m.changed && same_room m.room room then Some true else None
word base before s room (AllLeft m) =
    if list_any (λ t. s == t) m.changed && same_room m.room room then Some false else None
word base before s room (AllEnded d) =
    if is_among (filter (ends (AllEnded d)) (sockets base before)) s then Some false else None
word base before s room (Ended t by) = if t == s then Some false else None
word base before s room (Parked c) =
    if is_among (sockets_of base before c) s then Some false else None
word base before s room (Closed c) =
    if is_among (sockets_of base before c) s then Some false else None
word base before s room _ = None

-- the last step that speaks of them says that the socket is in the room, or none speaks
-- and the base has the pair
unfoldable pub is_last_in : PlainBase → List Step → ℕ → List ℕ → Bool
is_last_in base [] s room = is_in (rooms base []) s room
is_last_in base (step ∷ before) s room =
    unwrap_or (word base before s room step.what) (is_last_in base before s room)
