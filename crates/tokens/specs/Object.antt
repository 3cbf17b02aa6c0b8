-- JSON objects in which no object names a member twice (RFC 7515, section 4; RFC 7519, section 4).
use Rattle.std.specs.Prelude.{ℕ, Bool, true, false, not, ◌&&◌, is_some, if◌then◌else◌, List, [], ◌∷◌, Option, Some, None, option_and_then, bytes_eq}
use Rattle.std.specs.List.{list_any}
use Rattle.json.specs.Json.{Json, null, boolean, number, string, array, object, Items, no_items, item, Members, no_members, member, document}
use Rattle.json.specs.Find.{as_object}
use Rattle.json.specs.Strict.{keys}

-- no two of the names are the same
abbrev pub are_distinct : (names : List (List ℕ)) → Bool
are_distinct [] = true
are_distinct (name ∷ names) = not (list_any (bytes_eq name) names) && are_distinct names

-- no object in it, at any depth, names a member twice
abbrev mutual
  pub is_strict : Json → Bool
  is_strict null = true
  is_strict (boolean b) = true
  is_strict (number s) = true
  is_strict (string s) = true
  is_strict (array js) = items_are_strict js
  is_strict (object ms) = are_distinct (keys ms) && members_are_strict ms

  pub items_are_strict : Items → Bool
  items_are_strict no_items = true
  items_are_strict (item j js) = is_strict j && items_are_strict js

  pub members_are_strict : Members → Bool
  members_are_strict no_members = true
  members_are_strict (member k j ms) = is_strict j && members_are_strict ms

-- a value, where it is an object
abbrev pub if_object : Json → Option Json
if_object value = if is_some (as_object value) then Some value else None

-- a value in which no object names a member twice, where it is an object
abbrev pub if_strict : Json → Option Json
if_strict value = if is_strict value then if_object value else None

-- the object that a text is (RFC 8259)
unfoldable pub object_of : (text : List ℕ) → Option Json
object_of text = option_and_then if_strict (document text)
