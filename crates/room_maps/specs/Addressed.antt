-- For whom a broadcast is (Socket.IO server documentation, "Rooms" and "Adapter").
use Rattle.std.specs.Prelude.{ℕ, Bool, ◌&&◌, List}
use Rattle.terms.specs.Audience.{is_for}
use Rattle.room_maps.specs.Membership.{RoomSets, is_socket, is_in}

-- a broadcast to `rooms` except `excepted` is for this socket
abbrev pub is_addressed : RoomSets → List (List ℕ) → List (List ℕ) → ℕ → Bool
is_addressed sets rooms excepted sid = is_socket sets sid && is_for rooms excepted (is_in sets sid)
