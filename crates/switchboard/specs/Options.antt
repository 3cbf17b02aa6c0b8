-- The options of a command: an object whose members are of their types.
use Rattle.std.specs.Prelude.{Bool, true, false, ◌&&◌, ◌||◌, is_some, is_none, if◌then◌else◌, codes, Option, Some, None}
use Rattle.json.specs.Json.{Json, Items, no_items, item}
use Rattle.json.specs.Find.{get, at, as_str, as_number, as_bool, as_array, as_object}

-- it is a text, or lacks
abbrev pub is_text : Option Json → Bool
is_text None = true
is_text (Some member) = is_some (as_str member)

-- it is a number, or lacks
abbrev pub is_number : Option Json → Bool
is_number None = true
is_number (Some member) = is_some (as_number member)

-- it is `true` or `false`, or lacks
abbrev pub is_flag : Option Json → Bool
is_flag None = true
is_flag (Some member) = is_some (as_bool member)

-- each of them is a text
abbrev pub are_all_texts : Items → Bool
are_all_texts no_items = true
are_all_texts (item name names) = is_some (as_str name) && are_all_texts names

-- a list, and each of its elements is a text
abbrev pub is_list_of_texts : Option Items → Bool
is_list_of_texts None = false
is_list_of_texts (Some items) = are_all_texts items

-- it is a list of texts, or lacks
abbrev pub are_texts : Option Json → Bool
are_texts None = true
are_texts (Some member) = is_list_of_texts (as_array member)

-- the members that say which sockets are meant are of their types, or lack
abbrev pub name_sockets : Json → Bool
name_sockets options =
    is_text (get (codes "in") options) && are_texts (get (codes "to") options) && are_texts (get (codes "except") options)

-- those that say what is sent are of their types, or lack, and one of two ids lacks
abbrev pub name_form : Json → Bool
name_form options =
    is_flag (get (codes "volatile") options)
    && is_number (get (codes "ask") options)
    && is_number (get (codes "answer") options)
    && (is_none (get (codes "ask") options) || is_none (get (codes "answer") options))

-- an object whose members are of their types. Others than these are ignored
abbrev pub are_options : Json → Bool
are_options options = is_some (as_object options) && name_sockets options && name_form options

-- a value, where it is such an object
abbrev pub if_options : Option Json → Option Json
if_options None = None
if_options (Some options) = if are_options options then Some options else None

-- the second element of a command, where it is such an object
abbrev pub options_of : (command : Json) → Option Json
options_of command = if_options (at 1 command)
