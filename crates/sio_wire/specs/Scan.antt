-- The parts of a text read from left to right (Socket.IO protocol 5, "Packet encoding").
use Rattle.std.specs.Prelude.{◌≡◌, ℕ, ◌+◌, List, [], ◌∷◌, take, drop, slice_index, Option, Some, None, Result, Ok, Err, not, nat_lt, nat_le, ◌==◌, ◌&&◌, if◌then◌else◌, codes}
use Rattle.std.specs.Char.{is_ascii_digit}
use Rattle.std.specs.List.{prefix_len, list_any, before_first, after_first}
use Rattle.std.specs.Str.Parse.{digits_value}
use Rattle.sio_wire.specs.declared.header.Kind.{Kind}
use Rattle.sio_wire.specs.declared.header.Kind.TheVariants.{Connect, Disconnect, Event, Ack, ConnectError, BinaryEvent, BinaryAck}
use Rattle.sio_wire.specs.declared.header.Header.{Header}
use Rattle.sio_wire.specs.declared.error.SioError.{SioError}
use Rattle.sio_wire.specs.declared.error.SioError.TheVariants.{BadKind, BadCount, BadId, BadShape, TooMany}
use Rattle.sio_wire.specs.Kinds.{is_binary}
use Rattle.sio_wire.specs.Header.{slash, is_comma, is_control}

-- the next part is read only where there was no fault before it
infixl 10 ◌>>=◌
abbrev pub ◌>>=◌ : {A B : Type 0} → Result A SioError → (A → Result B SioError) → Result B SioError
(Ok x) >>= f = f x
(Err e) >>= f = Err e

-- what a function returned, seen by view, is what reading gives
abbrev pub Gives : {X Y : Type 0} → (X → Y) → Result X SioError → Result Y SioError → Type 0
Gives view (Ok x) read = read ≡ Ok (view x)
Gives view (Err e) read = read ≡ Err e

-- how many digits are in front
abbrev pub digit_count : List ℕ → ℕ
digit_count text = prefix_len is_ascii_digit text

-- the number that the digits in front write
abbrev pub number_in_front : List ℕ → ℕ
number_in_front text = digits_value 10 (take (digit_count text) text)

-- the type that the first digit names, and the rest
unfoldable pub kind_at : List ℕ → Result (Kind × List ℕ) SioError
kind_at [] = Err BadKind
kind_at (digit ∷ rest) =
    if digit == 48 then Ok (Connect, rest) else if digit == 49 then Ok (Disconnect, rest)
    else if digit == 50 then Ok (Event, rest) else if digit == 51 then Ok (Ack, rest)
    else if digit == 52 then Ok (ConnectError, rest) else if digit == 53 then Ok (BinaryEvent, rest)
    else if digit == 54 then Ok (BinaryAck, rest) else Err BadKind

-- in a binary packet one to fifteen digits and a `-`, and the rest
unfoldable pub count_at : Kind → List ℕ → Result (ℕ × List ℕ) SioError
count_at kind text =
    if not (is_binary kind) then Ok (0, text)
    else if not (nat_lt 0 (digit_count text) && nat_le (digit_count text) 15
    && slice_index text (digit_count text) == 45)
    then Err BadCount
    else if nat_lt 32 (number_in_front text) then Err TooMany
    else Ok (number_in_front text, drop (digit_count text + 1) text)

-- what begins with `/`, up to a comma, and the rest
unfoldable pub space_at : List ℕ → Result (List ℕ × List ℕ) SioError
space_at text =
    if not (slice_index text 0 == slash) then Ok (codes "/", text)
    else if list_any is_control (before_first is_comma text) then Err BadShape
    else Ok (before_first is_comma text, after_first is_comma text)

-- at most fifteen digits, and the rest
unfoldable pub id_at : List ℕ → Result (Option ℕ × List ℕ) SioError
id_at text =
    if digit_count text == 0 then Ok (None, text)
    else if nat_lt 15 (digit_count text) then Err BadId
    else Ok (Some (number_in_front text), drop (digit_count text) text)

-- the header of a text, with its payload not yet looked at, or the first fault of its parts
unfoldable pub header_at : List ℕ → Result Header SioError
header_at text = do
  kind ← kind_at text
  count ← count_at kind.0 kind.1
  space ← space_at count.1
  id ← id_at space.1
  Ok (record { kind = kind.0; space = space.0; id = id.0; payload = id.1; count = count.0 })
