use Rattle.std.proofs.Common.{◌≡◌, ◌++◌, drop, option_map}
use Rattle.switchboard.specs.Digits.{joins}
use Rattle.switchboard.proofs.switchboard.joins.Given as goal

abbrev pub invariant-loop-digit : goal.invariant-loop-digit
invariant-loop-digit l = joins l.digit-items ≡ option_map (λ rest. l.joins.items ++ rest) (joins (drop l.digit-index l.digit-items))
