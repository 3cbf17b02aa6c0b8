-- The token in the payload of a CONNECT, an object.
use Rattle.std.specs.Prelude.{ℕ, if◌then◌else◌, bytes_eq, List, codes, Option, Some, None, option_and_then}
use Rattle.json.specs.Json.{Json, null, boolean, number, string, array, object, Members, no_members, member, document}
use Rattle.json.specs.Find.{get, as_str, as_object}
use Rattle.json.specs.Print.{print}
use Rattle.json.specs.Tree.{json_tokens}

-- the text that stands as `token` in a payload
abbrev pub token_in : (payload : List ℕ) → Option (List ℕ)
token_in payload = option_and_then as_str (option_and_then (get (codes "token")) (document payload))

-- all members of another name
abbrev pub other_members : Members → Members
other_members no_members = no_members
other_members (member k j ms) = if bytes_eq k (codes "token") then other_members ms else member k j (other_members ms)

-- the text of the object of these, without white space
abbrev pub others : Members → List ℕ
others members = print (json_tokens (object (other_members members)))

-- where it is an object
abbrev pub others_or : (payload : List ℕ) → Option Members → List ℕ
others_or payload None = payload
others_or payload (Some members) = others members

-- a payload without its token
abbrev pub without_token : (payload : List ℕ) → List ℕ
without_token payload = others_or payload (option_and_then as_object (document payload))
