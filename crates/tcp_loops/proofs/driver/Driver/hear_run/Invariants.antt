use Rattle.std.proofs.Common.{◌≡◌, fold, take}
use Rattle.loop_rules.specs.Rounds.{after_answer}
use Rattle.tcp_loops.proofs.driver.Driver.hear_run.Given as goal

-- all before this answer count, and it is the same loop
abbrev pub invariant-loop-key : goal.invariant-loop-key
invariant-loop-key g l = record {
  round : l.self.round ≡ fold (λ round of. after_answer of.1 0 round) l.initial.self.round (take l.key-index l.run);
  number : l.self.number ≡ l.initial.self.number;
  base : l.self.base ≡ l.initial.self.base;
}
