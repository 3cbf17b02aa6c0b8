-- The arguments of a command after its options, as an array of their own.
use Rattle.std.specs.Prelude.{ℕ, List}
use Rattle.json.specs.Json.{Json, null, boolean, number, string, array, object, Items, no_items, item}
use Rattle.json.specs.Print.{print}
use Rattle.json.specs.Tree.{json_tokens}

-- all elements but the first two
abbrev pub after_two : Items → Items
after_two no_items = no_items
after_two (item name no_items) = no_items
after_two (item name (item options rest)) = rest

-- the elements of an array. Nothing else has any
abbrev pub elements : Json → Items
elements (array items) = items
elements null = no_items
elements (boolean b) = no_items
elements (number s) = no_items
elements (string s) = no_items
elements (object ms) = no_items

-- the array of the arguments, with its members in order and its numbers as they were written
abbrev pub arguments_array : (command : Json) → Json
arguments_array command = array (after_two (elements command))

-- its text, without white space
abbrev pub arguments : (command : Json) → List ℕ
arguments command = print (json_tokens (arguments_array command))
