use Rattle.std.proofs.Common.{◌≡◌, length}
use Rattle.journal.specs.Config as rules
use Rattle.journal.proofs.config.has_repeat.Given as goal

abbrev pub invariant-loop-name : goal.invariant-loop-name
invariant-loop-name l = rules.has_repeat l.names ≡ rules.has_repeat l.rest

abbrev pub decreases-loop-name : goal.decreases-loop-name
decreases-loop-name l = length l.rest
