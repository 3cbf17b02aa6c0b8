use Rattle.std.proofs.Common.{◌≡◌, map}
use Rattle.std.specs.List.{AllWithin}
use Rattle.loop_rules.specs.Concerns.{AreToldOf}
use Rattle.loop_rules.proofs.RunLemmas.{Told}
use Rattle.loop_rules.proofs.links.Links.wake_for_run.Given as goal

-- all before this answer are told, and those in the lists that were told last
abbrev pub invariant-loop-got : goal.invariant-loop-got
invariant-loop-got l = record {
  run : AllWithin (λ of. AreToldOf l.own l.loops of.1 l.self.roster l.notes) l.run 0 l.got-index;
  last : Told l.own l.loops (map (λ ids. ids.items) l.told) l.self.roster l.notes;
  links : l.self.links ≡ l.initial.self.links;
  takers : l.self.roster.takers ≡ l.initial.self.roster.takers;
}
