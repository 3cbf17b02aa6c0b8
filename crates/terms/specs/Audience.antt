-- For whom a broadcast to rooms is (Socket.IO server documentation, "Rooms" and "Adapter").
use Rattle.std.specs.Prelude.{ℕ, Bool, true, false, ◌&&◌, ◌||◌, not, List, [], ◌∷◌}
use Rattle.std.specs.List.{list_any}

-- a broadcast that names no room is for everybody
abbrev pub names_no_room : List (List ℕ) → Bool
names_no_room [] = true
names_no_room (room ∷ rooms) = false

-- a broadcast to `rooms` except `excepted` is for one who is in the rooms that pass the test:
-- in one of `rooms`, where some are named, and in none of `excepted`
abbrev pub is_for : List (List ℕ) → List (List ℕ) → (List ℕ → Bool) → Bool
is_for rooms excepted inside =
    (names_no_room rooms || list_any inside rooms) && not (list_any inside excepted)
