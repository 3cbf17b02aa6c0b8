-- What a look for the values of one name has found.
use Rattle.std.specs.Prelude.{◌≡◌, ◌≤◌, ℕ, List, [], ◌∷◌, length}
use Rattle.http_edge.specs.declared.head.Values.{Values}
use Rattle.http_edge.specs.declared.head.Values.TheVariants.{Nothing, One, Many}

-- none, one, or more
abbrev pub TellsValues : Values → List (List ℕ) → Type 0
TellsValues Nothing found = found ≡ []
TellsValues (One text) found = found ≡ text.now ∷ []
TellsValues Many found = 2 ≤ length found
