use Rattle.std.proofs.Common.{ℕ, ◌<◌, slice_index_or, map, []}
use Rattle.loop_rules.specs.Rosters.{AreTold, IsTold, Remembers}
use Rattle.loop_rules.proofs.roster.Roster.wake_lists.Given as goal

-- nothing is forgotten, and all of the lists before this one are told
abbrev pub invariant-loop-list : goal.invariant-loop-list
invariant-loop-list l = record {
  remembers : Remembers l.initial.self l.self l.initial.notes l.notes;
  lists : (k : ℕ) → k < l.list-index → AreTold l.own l.loops (slice_index_or (map (λ ids. ids.items) l.lists) k []) l.self l.notes;
}

-- and all before this client
abbrev pub invariant-loop-client : goal.invariant-loop-client
invariant-loop-client l = record {
  remembers : Remembers l.initial.self l.self l.initial.notes l.notes;
  lists : (k : ℕ) → k < l.list-index → AreTold l.own l.loops (slice_index_or (map (λ ids. ids.items) l.lists) k []) l.self l.notes;
  told : (k : ℕ) → k < l.client-index → IsTold l.own l.loops (slice_index_or l.client-items k 0) l.self l.notes;
}
