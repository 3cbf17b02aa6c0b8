-- What the warden reads of what it is told.
use Rattle.std.specs.Prelude.{ℕ, if◌then◌else◌, bytes_eq, List, codes, Option, Some, None, option_and_then, option_map}
use Rattle.json.specs.Json.{Json}
use Rattle.json.specs.Find.{at}
use Rattle.tokens.specs.Dates.{date_of}
use Rattle.guarded.specs.declared.warden.Told.{Told}
use Rattle.guarded.specs.declared.warden.Told.TheVariants.{Came, Back, Away, Gone}
use Rattle.guarded.specs.Commands.{text_at, room_named}

-- the seconds that an element of an array says, as `exp` does
abbrev pub seconds_at : ℕ → (elements : Json) → Option ℕ
seconds_at index elements = option_and_then date_of (at index elements)

-- a socket has come with a token that expires then
abbrev pub came : (room space : List ℕ) → (expires : ℕ) → Told
came room space expires = Came room space expires

-- by its name
abbrev pub told_as : (name room space : List ℕ) → (expires : Option ℕ) → Option Told
told_as name room space expires =
    if bytes_eq name (codes "came") then option_map (came room space) expires
    else if bytes_eq name (codes "back") then Some (Back room)
    else if bytes_eq name (codes "away") then Some (Away room)
    else if bytes_eq name (codes "gone") then Some (Gone room)
    else None

-- a name, a namespace and a room have to be there
abbrev pub told_with : (name space room : Option (List ℕ)) → (expires : Option ℕ) → Option Told
told_with None space room expires = None
told_with (Some name) None room expires = None
told_with (Some name) (Some space) None expires = None
told_with (Some name) (Some space) (Some room) expires = told_as name room space expires

-- `["came", namespace, id, seconds]`, or another name without the seconds
abbrev pub told_by : (event : Json) → Option Told
told_by event = told_with (text_at 0 event) (text_at 1 event) (option_and_then room_named (text_at 2 event)) (seconds_at 3 event)
