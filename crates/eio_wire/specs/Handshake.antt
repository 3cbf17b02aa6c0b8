-- The text of the open packet (Engine.IO protocol 4, "Handshake").
use Rattle.std.specs.Prelude.{ℕ, Bool, List, ◌++◌, if◌then◌else◌, codes}
use Rattle.std.specs.Fmt.{decimal}
use Rattle.terms.specs.Ids.{id_digits}
use Rattle.eio_wire.specs.declared.handshake.Numbers.{Numbers}

-- the transports to which the client may upgrade: from polling to WebSocket, and from there to none
abbrev pub upgrades_of : Bool → List ℕ
upgrades_of polling = if polling then codes "[\"websocket\"]" else codes "[]"

-- the open packet with this id and this list of transports: the JSON fields in this order, and no
-- blanks
abbrev pub open_packet_with : (id upgrades : List ℕ) → Numbers → List ℕ
open_packet_with id upgrades numbers =
    codes "0{\"sid\":\"" ++ id
    ++ codes "\",\"upgrades\":" ++ upgrades
    ++ codes ",\"pingInterval\":" ++ decimal numbers.ping_interval
    ++ codes ",\"pingTimeout\":" ++ decimal numbers.ping_timeout
    ++ codes ",\"maxPayload\":" ++ decimal numbers.max_payload
    ++ codes "}"

-- the open packet of this client
unfoldable pub open_packet_text : ℕ → Bool → Numbers → List ℕ
open_packet_text client polling numbers =
    open_packet_with (id_digits client) (upgrades_of polling) numbers
