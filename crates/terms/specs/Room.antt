-- The names of rooms (Socket.IO server documentation, "Rooms").
use Rattle.std.specs.Prelude.{◌≡◌, ℕ, Bool, nat_eq, ◌-◌, ◌≤◌, List, ◌++◌, length, take, replicate}
use Rattle.std.specs.Ordering.{nat_cmp}
use Rattle.std.specs.declared.cmp.Ordering.{Ordering}
use Rattle.std.specs.Cmp.Lexicographic.{slice_cmp, pointwise}
use Rattle.std.specs.Str.{IsUtf8}
use Rattle.terms.specs.Hexadecimal.{hex_digits}

-- rooms stand in the order of their bytes
abbrev pub room_cmp : List ℕ → List ℕ → Ordering
room_cmp = slice_cmp nat_cmp

-- whether two rooms are one
abbrev pub same_room : List ℕ → List ℕ → Bool
same_room = pointwise nat_eq

-- a name, followed by zeros up to 64 bytes
abbrev pub padded : List ℕ → List ℕ
padded name = name ++ replicate (64 - length name) 0

-- the first `len` bytes are a text, and zeros follow it
pub record HoldsName (bytes : List ℕ) (len : ℕ) : Type 0 where
  pub short : len ≤ 64
  pub whole : length (take len bytes) ≡ len
  pub zeros : padded (take len bytes) ≡ bytes
  pub text : IsUtf8 (take len bytes)

-- the room that each socket is in by itself: its id as 32 hexadecimal digits
unfoldable pub own_room : ℕ → List ℕ
own_room sid = hex_digits 32 sid
