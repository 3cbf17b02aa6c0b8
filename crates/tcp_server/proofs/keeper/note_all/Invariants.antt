use Rattle.std.proofs.Common.{◌≡◌, ◌<◌, ℕ, true, slice_index_or}
use Rattle.loop_rules.specs.Ids.{loop_of}
use Rattle.loop_rules.specs.Notes.{is_noted}
use Rattle.tcp_server.proofs.keeper.note_all.Given as goal

-- nobody is forgotten, and each client before this one is noted
abbrev pub invariant-loop-client : goal.invariant-loop-client
invariant-loop-client l = record {
  kept : (n c : ℕ) → is_noted n c l.fn.notes ≡ true → is_noted n c l.notes ≡ true;
  noted : (k : ℕ) → k < l.client-index → is_noted (loop_of (slice_index_or l.clients k 0) l.loops) (slice_index_or l.clients k 0) l.notes ≡ true;
}
