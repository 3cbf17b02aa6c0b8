use Rattle.std.proofs.Common.{◌≡◌}
use Rattle.tokens.proofs.HmacLemmas.{begun}
use Rattle.tokens.proofs.keys.padded.Given as goal

abbrev pub invariant-loop-index : goal.invariant-loop-index
invariant-loop-index l = l.block ≡ begun l.key l.pad l.index
