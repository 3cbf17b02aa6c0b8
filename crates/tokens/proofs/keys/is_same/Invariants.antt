use Rattle.std.proofs.Common.{◌≡◌, take}
use Rattle.tokens.proofs.keys.is_same.Given as goal

abbrev pub invariant-loop-index : goal.invariant-loop-index
invariant-loop-index l = record {
  same : l.differing ≡ 0 → take l.index l.text ≡ take l.index l.secret;
  zero : take l.index l.text ≡ take l.index l.secret → l.differing ≡ 0;
}
