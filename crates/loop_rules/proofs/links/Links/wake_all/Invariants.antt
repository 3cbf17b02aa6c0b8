use Rattle.std.proofs.Common.{◌≡◌, ◌<◌, ℕ, slice_index_or}
use Rattle.loop_rules.specs.Concerns.{IsWokenFor}
use Rattle.loop_rules.proofs.links.Links.wake_all.Given as goal

-- all before this client are woken
abbrev pub invariant-loop-client : goal.invariant-loop-client
invariant-loop-client l = record {
  woken : (k : ℕ) → k < l.client-index → IsWokenFor (slice_index_or l.clients k 0) l.self.roster;
  links : l.self.links ≡ l.initial.self.links;
  takers : l.self.roster.takers ≡ l.initial.self.roster.takers;
}
