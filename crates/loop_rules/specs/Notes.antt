-- Clients of other loops for which something was put.
use Rattle.std.specs.Prelude.{ℕ, Bool, ◌||◌, nat_eq, List, [], map, slice_index_or}
use Rattle.std.specs.List.{list_any}
use Rattle.loop_rules.specs.declared.roster.Notes.{Notes}

-- the clients of a loop
abbrev pub noted_of : Notes → ℕ → List ℕ
noted_of notes number = slice_index_or (map (λ list. list.items) notes.lists.items) number []

-- a client is noted for its loop, or everybody is
abbrev pub is_noted : ℕ → ℕ → Notes → Bool
is_noted number client notes = notes.everyone || list_any (λ c. nat_eq c client) (noted_of notes number)
