-- How much of what is received isn't whole.
use Rattle.std.specs.Prelude.{ℕ, Option, nat_eq}
use Rattle.std.specs.HashMap.{get}
use Rattle.loop_rules.specs.Parts.{bytes_in}
use Rattle.loop_rules.specs.declared.receiving.Part.{Part}
use Rattle.loop_rules.specs.declared.receiving.Unfinished.{Unfinished}

-- what one has
abbrev pub part_of : Unfinished → ℕ → Option Part
part_of u number = get nat_eq u.parts number

abbrev pub bytes_of : Unfinished → ℕ → ℕ
bytes_of u number = bytes_in (part_of u number)
