-- What the warden says: which socket is to be ended.
use Rattle.std.specs.Prelude.{ℕ, if◌then◌else◌, nat_lt, bytes_eq, List, [], ◌∷◌, length, codes, Option, Some, None, option_and_then}
use Rattle.json.specs.Json.{Json, document}
use Rattle.json.specs.Find.{at, as_str}
use Rattle.events.specs.Selection.{PlainSelection}
use Rattle.events.specs.declared.app.Arrived.{Arrived}
use Rattle.events.specs.declared.app.Arrived.TheVariants.{Connected, Returned, Event, Answer, Stray}
use Rattle.events.specs.declared.app.Effect.{Effect}
use Rattle.events.specs.declared.app.Effect.TheVariants.{AllEnd}

-- the text that is an element of an array
abbrev pub text_at : ℕ → (elements : Json) → Option (List ℕ)
text_at index elements = option_and_then as_str (at index elements)

-- a text of at most 64 bytes names a room
abbrev pub room_named : (name : List ℕ) → Option (List ℕ)
room_named name = if nat_lt 64 (length name) then None else Some name

-- whoever is in a room of a namespace
abbrev pub whoever_in : (space room : List ℕ) → PlainSelection
whoever_in space room = record { space = space; rooms = room ∷ []; excepted = [] }

-- `end` means the sockets of a namespace in a room
abbrev pub meant_by : (name space room : Option (List ℕ)) → Option PlainSelection
meant_by None space room = None
meant_by (Some name) None room = None
meant_by (Some name) (Some space) None = None
meant_by (Some name) (Some space) (Some room) = if bytes_eq name (codes "end") then Some (whoever_in space room) else None

-- `["end", namespace, room]`
abbrev pub meant : (command : Json) → Option PlainSelection
meant command = meant_by (text_at 0 command) (text_at 1 command) (option_and_then room_named (text_at 2 command))

-- the sockets are disconnected, whose sessions aren't saved
abbrev pub endings : Option PlainSelection → List Effect
endings None = []
endings (Some selection) = AllEnd selection ∷ []

-- nothing but an event has effects
abbrev pub commanded : Arrived → List Effect
commanded (Event message) = endings (option_and_then meant (document message.payload))
commanded (Connected newcomer) = []
commanded (Returned rooms) = []
commanded (Answer answer) = []
commanded (Stray stray) = []
