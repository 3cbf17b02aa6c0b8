use Rattle.std.proofs.Common.{◌≡◌, ◌<◌, ℕ, true, slice_index_or, map, []}
use Rattle.loop_rules.specs.Notes.{is_noted}
use Rattle.tcp_server.specs.Keeping.{AreNoted}
use Rattle.tcp_server.proofs.keeper.note_lists.Given as goal

-- nobody is forgotten, and the clients of each list before this one are noted
abbrev pub invariant-loop-list : goal.invariant-loop-list
invariant-loop-list l = record {
  kept : (n c : ℕ) → is_noted n c l.fn.notes ≡ true → is_noted n c l.notes ≡ true;
  noted : (k : ℕ) → k < l.list-index → AreNoted l.loops (slice_index_or (map (λ ids. ids.items) l.lists) k []) l.notes;
}
