use Rattle.std.proofs.Common.{sym, ◌∙◌}
use Rattle.http_edge.proofs.LengthLemmas.{length_given, length_is_utf8}
use Rattle.http_edge.proofs.head.read_length.Goals as goal

pub returns-in_default-clause-none : goal.returns-in_default-clause-none
returns-in_default-clause-none c = λ same len. c.in_default.ensures.cases.0 (length_is_utf8 c.args.text.now len)

pub returns-clause-none : goal.returns-clause-none
returns-clause-none c = λ same len.
    length_given c.in-Ok.digits.now c.parse.result (rw c.in-Ok.ensures.cases.0 len) c.parse.ensures.value.0 (sym c.ok.ensures.value ∙ same)
