use Rattle.std.proofs.Common.{◌≡◌, ◌≤◌, ◌++◌, drop, length}
use Rattle.terms.specs.Hexadecimal.{hex_digits}
use Rattle.terms.proofs.hexadecimal.write_digits.Given as goal

abbrev pub invariant-digits : goal.invariant-digits
invariant-digits l = record {
  within : l.at ≤ length l.initial.text;
  long : length l.text ≡ length l.initial.text;
  written : hex_digits l.at l.rest ++ drop l.at l.text ≡ hex_digits (length l.initial.text) l.number;
}

abbrev pub decreases-digits : goal.decreases-digits
decreases-digits l = l.at
