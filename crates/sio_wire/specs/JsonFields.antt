-- What is read from the JSON tree of a payload.
use Rattle.std.specs.Prelude.{ℕ, List, [], ◌∷◌, Option, Some, None, option_and_then, Result, Ok, Err, codes}
use Rattle.serde_json.specs.Data.{Data, Items, no_items, item}
use Rattle.serde_json.specs.Read.{read}
use Rattle.serde_json.specs.Find.{get, as_str, as_array}
use Rattle.sio_wire.specs.declared.error.SioError.{SioError}
use Rattle.sio_wire.specs.declared.error.SioError.TheVariants.{BadJson, BadShape}
use Rattle.sio_wire.specs.declared.tree.Resume.{Resume}

-- for each element its text, where it is one
abbrev pub texts_of : Items → List (Option (List ℕ))
texts_of no_items = []
texts_of (item d ds) = as_str d ∷ texts_of ds

-- the texts of an array's elements
abbrev pub names_in_array : Option Items → Result (List (Option (List ℕ))) SioError
names_in_array None = Err BadShape
names_in_array (Some elements) = Ok (texts_of elements)

-- the same of a payload's tree, where it has one
abbrev pub names_in : Option Data → Result (List (Option (List ℕ))) SioError
names_in None = Err BadJson
names_in (Some tree) = names_in_array (as_array tree)

-- the texts in the array that a payload is
abbrev pub names_at : List ℕ → Result (List (Option (List ℕ))) SioError
names_at payload = names_in (read payload)

-- the text of an object's member
abbrev pub text_at : List ℕ → Data → Option (List ℕ)
text_at key tree = option_and_then as_str (get key tree)

-- the session and the offset, where both are there
abbrev pub both : Option (List ℕ) → Option (List ℕ) → Option Resume
both None offset = None
both (Some pid) None = None
both (Some pid) (Some offset) = Some (record { pid = pid; offset = offset })

-- the session and the offset that a payload's tree names
abbrev pub resume_in : Option Data → Result (Option Resume) SioError
resume_in None = Err BadJson
resume_in (Some tree) = Ok (both (text_at (codes "pid") tree) (text_at (codes "offset") tree))

-- the session and the offset that the payload of a CONNECT names
abbrev pub resume_at : List ℕ → Result (Option Resume) SioError
resume_at [] = Ok None
resume_at (b ∷ rest) = resume_in (read (b ∷ rest))
