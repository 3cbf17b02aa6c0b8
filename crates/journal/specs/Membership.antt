-- Clients, their sockets, and the rooms that these are in (Socket.IO server documentation,
-- "Rooms" and "Adapter").
use Rattle.std.specs.Prelude.{ℕ, ◌==◌, Bool, false, not, ◌&&◌, List, [], ◌∷◌, ◌++◌, map, filter, is_some, length, nat_eq, nat_lt, Option, bytes_eq, position, unwrap_or}
use Rattle.std.specs.List.{list_any, find, flat_map}
use Rattle.std.specs.Set.{is_member}
use Rattle.std.specs.FinSet as set
use Rattle.journal.specs.declared.socket.Socket.{Socket}
use Rattle.journal.specs.declared.step.Step.{Step}
use Rattle.journal.specs.declared.step.What.{What}
use Rattle.journal.specs.declared.step.What.TheVariants.{Opened, Attached, Recovered, Joined, Left, AllJoined, AllLeft, Parked, Ended, AllEnded, Closed}
use Rattle.room_maps.specs.Membership.{RoomSets, with_socket, with_socket_in, with_pair, without_pair, with_members, without_members, without_socket}
use Rattle.room_maps.specs.Addressed as broadcast
use Rattle.journal.specs.Plain.{Limits, PlainBase, PlainBaseClient}

-- ---- namespaces

-- the place of a namespace in the hub's list, or the length of the list where it isn't there
unfoldable pub place_of : Limits → List ℕ → ℕ
place_of limits space = unwrap_or (position (bytes_eq space) limits.spaces) (length limits.spaces)

-- the hub has a namespace at this place
abbrev pub is_space : Limits → ℕ → Bool
is_space limits space = nat_lt space (length limits.spaces)

-- ---- clients

-- the step opens these clients
abbrev pub opens : What → List ℕ
opens (Opened c) = c ∷ []
opens _ = []

-- the step ends the client
abbrev pub closes : What → ℕ → Bool
closes (Parked d) c = d == c
closes (Closed d) c = d == c
closes _ c = false

-- the clients that were opened and not parked or closed since, in the order in
-- which they were opened
unfoldable pub open_clients : PlainBase → List Step → List ℕ
open_clients base [] = map (λ (b : PlainBaseClient). b.client) base.clients
open_clients base (step ∷ before) =
    filter (λ c. not (closes step.what c)) (open_clients base before) ++ opens step.what

-- the client is open
unfoldable pub is_open : PlainBase → List Step → ℕ → Bool
is_open base journal c = is_member nat_eq (open_clients base journal) c

-- ---- sockets

-- the step connects these sockets
abbrev pub connects : What → List Socket
connects (Attached k) = k ∷ []
connects (Recovered r) = r.socket ∷ []
connects _ = []

-- the step ends the socket, by itself, with others or with its client
abbrev pub ends : What → Socket → Bool
ends (Ended s by) k = k.sid == s
ends (AllEnded d) k = list_any (λ s. k.sid == s) d.ended
ends (Parked c) k = k.client == c
ends (Closed c) k = k.client == c
ends _ k = false

-- the sockets of a client of the base
abbrev pub base_sockets : PlainBaseClient → List Socket
base_sockets b =
    map
    (λ (t : ℕ × ℕ × ℕ). record { client = b.client; space = t.0; sid = t.1; pid = t.2 })
    b.sockets

-- the sockets that were connected and not ended since, in the order in which they were connected
unfoldable pub sockets : PlainBase → List Step → List Socket
sockets base [] = flat_map base_sockets base.clients
sockets base (step ∷ before) =
    filter (λ k. not (ends step.what k)) (sockets base before) ++ connects step.what

-- the ids by which a socket is known
abbrev pub sid_of : Socket → ℕ
sid_of k = k.sid

abbrev pub pid_of : Socket → ℕ
pid_of k = k.pid

-- the socket has this id
abbrev pub has_id : (Socket → ℕ) → ℕ → Socket → Bool
has_id id x k = id k == x

-- the connected socket that has this id
unfoldable pub socket_with : (Socket → ℕ) → PlainBase → List Step → ℕ → Option Socket
socket_with id base journal x = find (has_id id x) (sockets base journal)

-- a connected socket has this id
abbrev pub is_connected : (Socket → ℕ) → PlainBase → List Step → ℕ → Bool
is_connected id base journal x = is_some (socket_with id base journal x)

-- the sockets of a client
unfoldable pub sockets_of : PlainBase → List Step → ℕ → List Socket
sockets_of base journal c = filter (λ k. k.client == c) (sockets base journal)

-- the client's socket in a namespace
unfoldable pub socket_of : PlainBase → List Step → ℕ → ℕ → Option Socket
socket_of base journal c space = find (λ k. k.space == space) (sockets_of base journal c)

-- the connected socket with this session id is in the namespace
abbrev pub is_in_space : PlainBase → List Step → ℕ → ℕ → Bool
is_in_space base journal space s =
    list_any (λ k. k.sid == s && k.space == space) (sockets base journal)

-- ---- rooms

-- without these sockets and all their rooms
unfoldable pub without_sockets : RoomSets → List Socket → RoomSets
without_sockets sets [] = sets
without_sockets sets (k ∷ ks) = without_sockets (without_socket sets k.sid) ks

-- what a step changes: a new socket is in its own room, or in those that come back with it; a
-- socket that ends leaves all its rooms
abbrev pub rooms_after : PlainBase → List Step → RoomSets → What → RoomSets
rooms_after base before sets (Attached k) = with_socket sets k.sid
rooms_after base before sets (Recovered r) = with_socket_in sets r.socket.sid r.rooms
rooms_after base before sets (Joined s r) = with_pair sets s r
rooms_after base before sets (Left s r) = without_pair sets s r
rooms_after base before sets (AllJoined m) = with_members sets m.changed m.room
rooms_after base before sets (AllLeft m) = without_members sets m.changed m.room
rooms_after base before sets (AllEnded d) =
    without_sockets sets (filter (ends (AllEnded d)) (sockets base before))
rooms_after base before sets (Ended s by) = without_socket sets s
rooms_after base before sets (Parked c) = without_sockets sets (sockets_of base before c)
rooms_after base before sets (Closed c) = without_sockets sets (sockets_of base before c)
rooms_after base before sets _ = sets

-- the connected sockets, and which rooms each is in
unfoldable pub rooms : PlainBase → List Step → RoomSets
rooms base [] =
    record {
      sockets = set.from_list (map sid_of (sockets base []));
      pairs = set.from_list base.pairs;
    }
rooms base (step ∷ before) = rooms_after base before (rooms base before) step.what

-- ---- sockets that match

-- the socket is in the namespace, in one of the rooms, where some are named, and in
-- none of the excepted rooms
abbrev pub matches :
    PlainBase → List Step → (space : ℕ) → (named excepted : List (List ℕ)) → Socket → Bool
matches base journal space named excepted k =
    k.space == space && broadcast.is_addressed (rooms base journal) named excepted k.sid
