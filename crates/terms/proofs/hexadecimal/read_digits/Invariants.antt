use Rattle.std.proofs.Common.{◌≡◌, ◌<◌, ◌^◌, take}
use Rattle.terms.specs.Hexadecimal.{hex_digits}
use Rattle.terms.proofs.hexadecimal.read_digits.Given as goal

abbrev pub invariant-loop-character : goal.invariant-loop-character
invariant-loop-character l = record {
  fits : l.number < 16 ^ l.character-index;
  read : take l.character-index l.text ≡ hex_digits l.character-index l.number;
}
