use Rattle.std.proofs.Common.{◌≡◌}
use Rattle.loop_rules.proofs.links.Links.call_due.Given as goal

-- only the queue changes, and who waits for a moment
abbrev pub invariant-loop : goal.invariant-loop
invariant-loop l = record {
  links : l.self.links ≡ l.initial.self.links;
  takers : l.self.roster.takers ≡ l.initial.self.roster.takers;
  receiving : l.self.receiving ≡ l.initial.self.receiving;
}
