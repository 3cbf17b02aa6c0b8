-- The offset as a payload's last element (Socket.IO server documentation, "Connection state
-- recovery").
use Rattle.std.specs.Prelude.{ℕ, Bool, ◌==◌, List, ◌++◌, Option, codes}
use Rattle.std.specs.List.{before_last}
use Rattle.std.specs.Option.{option_map_or}
use Rattle.terms.specs.Hexadecimal.{hex_digits}
use Rattle.sio_wire.specs.declared.header.Front.{Front}
use Rattle.sio_wire.specs.declared.header.Header.{Header}

-- an offset's sixteen digits
abbrev pub offset_digits : ℕ → List ℕ
offset_digits offset = hex_digits 16 offset

-- the byte `]`
abbrev pub is_bracket : ℕ → Bool
is_bracket b = b == 93

-- the offset in quotes as an array's last element, and the array's end
abbrev pub offset_text : ℕ → List ℕ
offset_text offset = codes ",\"" ++ offset_digits offset ++ codes "\"]"

-- the payload up to its last `]`, then the offset in quotes as one more element
abbrev pub payload_with_offset : List ℕ → ℕ → List ℕ
payload_with_offset payload offset = before_last is_bracket payload ++ offset_text offset

-- the header of this front and this payload, which has the offset as its last element where there
-- is one
abbrev pub packet_header : Front → (payload : List ℕ) → (offset : Option ℕ) → Header
packet_header front payload offset =
    record {
      kind = front.kind;
      space = front.space.now;
      id = front.id;
      payload = option_map_or (payload_with_offset payload) offset payload;
      count = front.count;
    }
