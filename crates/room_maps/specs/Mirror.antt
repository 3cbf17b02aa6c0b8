-- A map of sockets to their rooms and a map of rooms to their sockets that hold the same pairs.
use Rattle.std.specs.Prelude.{◌≡◌, ℕ, Bool, true, List, [], map, is_some, Option, None, Some}
use Rattle.std.specs.Ordering.{nat_cmp}
use Rattle.std.specs.List.{flat_map, list_any}
use Rattle.std.specs.List.Sorted.{IsStrictlySortedBy}
use Rattle.std.specs.FinSet as set
use Rattle.std.specs.BTreeMap.{BTreeMap}
use Rattle.std.specs.BTreeMap as tree
use Rattle.std.specs.BTreeSet.{BTreeSet}
use Rattle.terms.specs.Room.{room_cmp, own_room}
use Rattle.room_maps.specs.Links.{is_linked, HasNoEmptySet}
use Rattle.room_maps.specs.Membership.{pair_cmp, RoomSets, is_socket}

abbrev pub SocketMap : Type 0
SocketMap = BTreeMap ℕ (BTreeSet (List ℕ))

abbrev pub RoomMap : Type 0
RoomMap = BTreeMap (List ℕ) (BTreeSet ℕ)

-- ---- the sets that a map of sockets holds

abbrev pub rooms_at : Option (BTreeSet (List ℕ)) → List (List ℕ)
rooms_at None = []
rooms_at (Some rooms) = rooms.keys

abbrev pub pairs_at : SocketMap → ℕ → List (ℕ × List ℕ)
pairs_at a sid = map (λ room. (sid, room)) (rooms_at (tree.get nat_cmp a sid))

-- the pairs of an entry
abbrev pub entry_pairs : ℕ × BTreeSet (List ℕ) → List (ℕ × List ℕ)
entry_pairs e = map (λ room. (e.0, room)) e.1.keys

-- the rooms of an entry rise
abbrev pub HasRisingRooms : ℕ × BTreeSet (List ℕ) → Type 0
HasRisingRooms e = IsStrictlySortedBy room_cmp e.1.keys

unfoldable pub sockets_of : SocketMap → set.FinSet nat_cmp
sockets_of a = set.from_list (tree.keys a)

unfoldable pub pairs_of : SocketMap → set.FinSet pair_cmp
pairs_of a = set.from_list (flat_map (pairs_at a) (tree.keys a))

abbrev pub sets_of : SocketMap → RoomSets
sets_of a = record { sockets = sockets_of a; pairs = pairs_of a }

-- one of the rooms has the socket, as a map of rooms has it
abbrev pub is_member_of_one : RoomMap → List (List ℕ) → ℕ → Bool
is_member_of_one b rooms sid = list_any (λ room. is_linked room_cmp nat_cmp b room sid) rooms

-- ---- the two maps mirror each other

-- both maps hold exactly these pairs, each socket is in its own room, and no room is empty
pub record Mirror (a : SocketMap) (b : RoomMap) (pairs : set.FinSet pair_cmp) : Type 0 where
  pub sockets_side : (sid : ℕ) (room : List ℕ)
      → is_linked nat_cmp room_cmp a sid room ≡ set.contains pairs (sid, room)
  pub rooms_side : (sid : ℕ) (room : List ℕ)
      → is_linked room_cmp nat_cmp b room sid ≡ set.contains pairs (sid, room)
  pub own_rooms : (sid : ℕ)
      → is_some (tree.get nat_cmp a sid) ≡ true → set.contains pairs (sid, own_room sid) ≡ true
  pub no_empty_room : HasNoEmptySet room_cmp b

-- a map of sockets and a map of rooms are these sets: the keys of the first are just these sockets,
-- both hold just these pairs, each socket is in its own room, and neither map keeps an empty set
pub record IsMirrored (sets : RoomSets) (of_socket : SocketMap) (of_room : RoomMap) : Type 0 where
  pub sockets : (sid : ℕ) → is_some (tree.get nat_cmp of_socket sid) ≡ is_socket sets sid
  pub pairs : Mirror of_socket of_room sets.pairs
  pub no_empty_socket : HasNoEmptySet nat_cmp of_socket
