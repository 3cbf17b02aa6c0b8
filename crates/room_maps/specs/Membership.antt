-- Which sockets there are and which rooms they are in (Socket.IO server documentation, "Rooms" and
-- "Adapter").
use Rattle.std.specs.Prelude.{◌≡◌, ℕ, Bool, true, ◌≤◌, ◌&&◌, not, List, [], ◌∷◌, map, nat_le, nat_lt, Option, refl}
use Rattle.room_maps.specs.declared.error.RoomError.{RoomError}
use Rattle.room_maps.specs.declared.error.RoomError.TheVariants.{UnknownSocket, AlreadyIn, NotIn, OwnRoom, TooManyRooms, SidTaken}
use Rattle.std.specs.declared.cmp.Ordering.{Ordering}
use Rattle.std.specs.Ordering.{nat_cmp, on, then_cmp, eq_by_cmp}
use Rattle.std.specs.List.{filter, list_any}
use Rattle.std.specs.FinSet as set
use Rattle.std.specs.Coded.{Coded, code_by, coded×, coded_ℕ, coded_list}
use Rattle.terms.specs.Refusal.{first_refusal}
use Rattle.terms.specs.Room.{room_cmp, same_room, own_room}

-- pairs stand in the order of their sockets, and those of one socket in that of their rooms
abbrev pub pair_cmp : ℕ × List ℕ → ℕ × List ℕ → Ordering
pair_cmp = then_cmp (on (λ p. p.0) nat_cmp) (on (λ p. p.1) room_cmp)

-- a set of sockets, and the set of the pairs of a socket and a room that it is in
pub record RoomSets : Type 0 where
  pub sockets : set.FinSet nat_cmp
  pub pairs : set.FinSet pair_cmp

abbrev pub room_sets_code : Coded RoomSets
room_sets_code = code_by (set.FinSet nat_cmp × set.FinSet pair_cmp)
    (coded× (set.code coded_ℕ) (set.code (coded× coded_ℕ (coded_list coded_ℕ))))
    (λ v. (v.sockets, v.pairs)) (λ p. record { sockets = p.0; pairs = p.1 }) (λ _. refl)

abbrev pub is_socket : RoomSets → ℕ → Bool
is_socket sets sid = set.contains sets.sockets sid

abbrev pub is_in : RoomSets → ℕ → List ℕ → Bool
is_in sets sid room = set.contains sets.pairs (sid, room)

-- the rooms that a socket is in
unfoldable pub rooms_in : RoomSets → ℕ → set.FinSet room_cmp
rooms_in sets sid =
    set.from_list (map (λ p. p.1) (filter (λ p. eq_by_cmp nat_cmp sid p.0) (set.items sets.pairs)))

-- whether the socket is one of these
abbrev pub is_named : List ℕ → ℕ → Bool
is_named sids sid = list_any (eq_by_cmp nat_cmp sid) sids

-- the pairs of these sockets and the room
abbrev pub pairs_with : List ℕ → List ℕ → set.FinSet pair_cmp
pairs_with sids room = set.from_list (map (λ sid. (sid, room)) sids)

-- ---- the changes

abbrev pub no_sockets : RoomSets
no_sockets = record { sockets = set.empty; pairs = set.empty }

abbrev pub with_pair : RoomSets → ℕ → List ℕ → RoomSets
with_pair sets sid room =
    record { sockets = sets.sockets; pairs = set.insert sets.pairs (sid, room) }

abbrev pub without_pair : RoomSets → ℕ → List ℕ → RoomSets
without_pair sets sid room =
    record { sockets = sets.sockets; pairs = set.remove sets.pairs (sid, room) }

-- the socket is in these rooms too
abbrev pub with_pairs : RoomSets → ℕ → List (List ℕ) → RoomSets
with_pairs sets sid rooms =
    record {
      sockets = sets.sockets;
      pairs = set.union sets.pairs (set.from_list (map (λ room. (sid, room)) rooms));
    }

-- these sockets are in the room too
abbrev pub with_members : RoomSets → List ℕ → List ℕ → RoomSets
with_members sets sids room =
    record { sockets = sets.sockets; pairs = set.union sets.pairs (pairs_with sids room) }

-- these sockets aren't in the room
abbrev pub without_members : RoomSets → List ℕ → List ℕ → RoomSets
without_members sets sids room =
    record { sockets = sets.sockets; pairs = set.difference sets.pairs (pairs_with sids room) }

-- a new socket is in its own room
abbrev pub with_socket : RoomSets → ℕ → RoomSets
with_socket sets sid =
    record {
      sockets = set.insert sets.sockets sid;
      pairs = set.insert sets.pairs (sid, own_room sid);
    }

-- a new socket is in its own room and in these
abbrev pub with_socket_in : RoomSets → ℕ → List (List ℕ) → RoomSets
with_socket_in sets sid rooms = with_pairs (with_socket sets sid) sid rooms

-- a socket ends with all its pairs
abbrev pub without_socket : RoomSets → ℕ → RoomSets
without_socket sets sid =
    record {
      sockets = set.remove sets.sockets sid;
      pairs = set.retain sets.pairs (λ p. not (eq_by_cmp nat_cmp sid p.0));
    }

-- ---- the refusals

-- a socket is in at most 256 rooms, its own among them
abbrev pub is_full : RoomSets → ℕ → Bool
is_full sets sid = nat_le 256 (set.len (rooms_in sets sid))

-- the socket's own room and these are more than 256
abbrev pub are_too_many : ℕ → List (List ℕ) → Bool
are_too_many sid rooms = nat_lt 256 (set.len (set.from_list {R = room_cmp} (own_room sid ∷ rooms)))

abbrev pub enter_refusal : RoomSets → ℕ → Option RoomError
enter_refusal sets sid = first_refusal ((is_socket sets sid, SidTaken) ∷ [])

abbrev pub enter_all_refusal : RoomSets → ℕ → List (List ℕ) → Option RoomError
enter_all_refusal sets sid rooms =
    first_refusal ((is_socket sets sid, SidTaken) ∷ (are_too_many sid rooms, TooManyRooms) ∷ [])

abbrev pub join_refusal : RoomSets → ℕ → List ℕ → Option RoomError
join_refusal sets sid room =
    first_refusal
    ((not (is_socket sets sid), UnknownSocket)
    ∷ (is_in sets sid room, AlreadyIn)
    ∷ (is_full sets sid, TooManyRooms)
    ∷ [])

abbrev pub leave_refusal : RoomSets → ℕ → List ℕ → Option RoomError
leave_refusal sets sid room =
    first_refusal
    ((not (is_socket sets sid), UnknownSocket)
    ∷ (same_room (own_room sid) room, OwnRoom)
    ∷ (not (is_in sets sid room), NotIn)
    ∷ [])

-- one of these isn't a socket
abbrev pub has_unknown : RoomSets → List ℕ → Bool
has_unknown sets sids = list_any (λ sid. not (is_socket sets sid)) sids

-- one of these isn't in the room, and has no space for it
abbrev pub has_full : RoomSets → List ℕ → List ℕ → Bool
has_full sets sids room = list_any (λ sid. not (is_in sets sid room) && is_full sets sid) sids

-- the room is the own one of one of these
abbrev pub has_own_room : List ℕ → List ℕ → Bool
has_own_room sids room = list_any (λ sid. same_room (own_room sid) room) sids

abbrev pub join_all_refusal : RoomSets → List ℕ → List ℕ → Option RoomError
join_all_refusal sets sids room =
    first_refusal
    ((has_unknown sets sids, UnknownSocket) ∷ (has_full sets sids room, TooManyRooms) ∷ [])

abbrev pub leave_all_refusal : RoomSets → List ℕ → List ℕ → Option RoomError
leave_all_refusal sets sids room =
    first_refusal ((has_unknown sets sids, UnknownSocket) ∷ (has_own_room sids room, OwnRoom) ∷ [])

-- of `end` and of `rooms_of`
abbrev pub unknown_refusal : RoomSets → ℕ → Option RoomError
unknown_refusal sets sid = first_refusal ((not (is_socket sets sid), UnknownSocket) ∷ [])

-- ---- what always holds

abbrev pub HasFewRooms : RoomSets → Type 0
HasFewRooms sets = (sid : ℕ) → set.len (rooms_in sets sid) ≤ 256

-- each socket is in its own room, only sockets are in rooms, and each is in at most 256
pub record AreConsistent (sets : RoomSets) : Type 0 where
  pub own_rooms : (sid : ℕ) → is_socket sets sid ≡ true → is_in sets sid (own_room sid) ≡ true
  pub known : (sid : ℕ) (room : List ℕ) → is_in sets sid room ≡ true → is_socket sets sid ≡ true
  pub few_rooms : HasFewRooms sets
