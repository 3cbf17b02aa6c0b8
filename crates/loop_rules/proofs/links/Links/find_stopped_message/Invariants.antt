use Rattle.std.proofs.Common.{◌≡◌}
use Rattle.loop_rules.proofs.links.Links.find_stopped_message.Given as goal

-- only what is unfinished changes
abbrev pub invariant-loop : goal.invariant-loop
invariant-loop l = record {
  links : l.self.links ≡ l.initial.self.links;
  roster : l.self.roster ≡ l.initial.self.roster;
}
