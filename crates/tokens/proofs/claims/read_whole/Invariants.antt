use Rattle.std.proofs.Common.{◌≡◌, ◌<◌, ◌^◌, drop}
use Rattle.tokens.specs.Dates.{read_on}
use Rattle.tokens.proofs.claims.read_whole.Given as goal

abbrev pub invariant-loop-digit : goal.invariant-loop-digit
invariant-loop-digit l = record {
  fits : l.seconds < 10 ^ l.digit-index;
  read : read_on 0 l.digit-items ≡ read_on l.seconds (drop l.digit-index l.digit-items);
}
