use Rattle.std.proofs.Common.{◌≡◌, ℕ, [], map, slice_index_or, vec_len}
use Rattle.loop_rules.proofs.roster.Notes.new.Given as goal

-- there is a list for each loop so far, and nobody stands in it
abbrev pub invariant-loop-loop : goal.invariant-loop-loop
invariant-loop-loop l = record {
  count : vec_len l.lists ≡ l._loop;
  none : (k : ℕ) → slice_index_or (map (λ list. list.items) l.lists.items) k [] ≡ [];
}
