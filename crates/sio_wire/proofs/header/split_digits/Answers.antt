use Rattle.std.proofs.Common.{◌≡◌, ◌∙◌, sym, subst}
use Rattle.std.specs.Char.{is_ascii_digit}
use Rattle.std.specs.Str.{IsCharBoundary}
use Rattle.std.proofs.lemmas.List.Folds.{length-prefix_len}
use Rattle.sio_wire.specs.Scan.{digit_count}
use Rattle.sio_wire.proofs.DigitsLemmas.{IsCharBoundary-digits, AllDigits-front}
use Rattle.sio_wire.proofs.header.split_digits.Goals as goal
use Rattle.sio_wire.proofs.header.split_digits.Goals.{After-leading_digits}

count_is : (c : After-leading_digits) → c.leading_digits.result ≡ digit_count c.args.text.now
count_is c = rw c.as_bytes.ensures.value at (c.leading_digits.ensures ∙ length-prefix_len is_ascii_digit c.as_bytes.result.now)

pub split_at-requires : goal.split_at-requires
split_at-requires c = subst (IsCharBoundary c.args.text.now) (sym (count_is c)) (IsCharBoundary-digits c.args.text.now c.utf8.text)

pub returns-clause-digits : goal.returns-clause-digits
returns-clause-digits c = rw (c.split_at.ensures.front, count_is (goal.at.returns-clause-digits c).After-leading_digits) (AllDigits-front c.args.text.now)
