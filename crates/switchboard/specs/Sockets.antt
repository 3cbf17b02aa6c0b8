-- Which sockets a command means.
use Rattle.std.specs.Prelude.{ℕ, Bool, if◌then◌else◌, nat_lt, bytes_eq, List, [], ◌∷◌, length, codes, Option, Some, None, option_and_then, unwrap_or, Result, Ok, Err}
use Rattle.std.specs.List.{list_any}
use Rattle.json.specs.Json.{Json, Items, no_items, item}
use Rattle.json.specs.Find.{get, as_str, as_array}
use Rattle.events.specs.Selection.{PlainSelection}
use Rattle.switchboard.specs.declared.command.CommandError.{CommandError}
use Rattle.switchboard.specs.declared.command.CommandError.TheVariants.{UnknownNamespace, BadRoom}

-- the namespace, the main one where none is named
abbrev pub space_of : Json → List ℕ
space_of options = unwrap_or (option_and_then as_str (get (codes "in") options)) (codes "/")

-- the server has it
abbrev pub has_space : (spaces : List (List ℕ)) → (name : List ℕ) → Bool
has_space spaces name = list_any (λ space. bytes_eq space name) spaces

-- a text of at most 64 bytes names a room
abbrev pub short : Option (List ℕ) → Option (List ℕ)
short None = None
short (Some name) = if nat_lt 64 (length name) then None else Some name

-- the room that a value names
abbrev pub room_of : Json → Option (List ℕ)
room_of name = short (as_str name)

-- one more room, where it is one and all others are
abbrev pub room_too : Option (List ℕ) → Result (List (List ℕ)) CommandError → Result (List (List ℕ)) CommandError
room_too None rooms = Err BadRoom
room_too (Some room) (Err why) = Err why
room_too (Some room) (Ok rooms) = Ok (room ∷ rooms)

-- the rooms that are named, if all are rooms
abbrev pub rooms_named : Items → Result (List (List ℕ)) CommandError
rooms_named no_items = Ok []
rooms_named (item name names) = room_too (room_of name) (rooms_named names)

-- the rooms of a list that was found
abbrev pub rooms_listed : Option Items → Result (List (List ℕ)) CommandError
rooms_listed None = Ok []
rooms_listed (Some names) = rooms_named names

-- the rooms of a list, none where there is no list
abbrev pub rooms_of : Option Json → Result (List (List ℕ)) CommandError
rooms_of list = rooms_listed (option_and_then as_array list)

-- the rooms are refused where one of them is, and then the excepted ones
abbrev pub selected : (space : List ℕ) → (rooms excepted : Result (List (List ℕ)) CommandError) → Result PlainSelection CommandError
selected space (Err why) excepted = Err why
selected space (Ok rooms) (Err why) = Err why
selected space (Ok rooms) (Ok excepted) = Ok (record { space = space; rooms = rooms; excepted = excepted })

-- the sockets that are meant
abbrev pub selection_of : (spaces : List (List ℕ)) → Json → Result PlainSelection CommandError
selection_of spaces options =
    if has_space spaces (space_of options)
    then selected (space_of options) (rooms_of (get (codes "to") options)) (rooms_of (get (codes "except") options))
    else Err UnknownNamespace
