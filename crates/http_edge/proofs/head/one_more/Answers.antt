use Rattle.http_edge.proofs.FieldLemmas.{other_kept, first_named, second_named, same_name}
use Rattle.httparse.specs.Spans.{header_bytes}
use Rattle.http_edge.proofs.head.one_more.Goals as goal

pub returns-then-not-eq_ignore_ascii_case : goal.returns-then-not-eq_ignore_ascii_case
returns-then-not-eq_ignore_ascii_case c = λ known told.
    other_kept c.args.found _ c.args.name.now known (header_bytes c.args.bytes.now c.args.field.now) c.if-not-eq_ignore_ascii_case.true
    _ c.of.ensures (same_name c.eq_ignore_ascii_case.result c.of.result.now c.args.name.now c.eq_ignore_ascii_case.ensures.test) told

pub returns-in-Nothing : goal.returns-in-Nothing
returns-in-Nothing c = λ known told.
    rw c.of-in-Nothing.ensures (first_named c.args.found _ c.args.name.now known (header_bytes c.args.bytes.now c.args.field.now) c.if-not-eq_ignore_ascii_case.false
    _ c.of.ensures (same_name c.eq_ignore_ascii_case.result c.of.result.now c.args.name.now c.eq_ignore_ascii_case.ensures.test) c.in-Nothing.is told)

pub returns-in-One : goal.returns-in-One
returns-in-One c = λ known told.
    second_named c.args.found c.in-One.field-0 _ c.args.name.now known (header_bytes c.args.bytes.now c.args.field.now) c.if-not-eq_ignore_ascii_case.false
    _ c.of.ensures (same_name c.eq_ignore_ascii_case.result c.of.result.now c.args.name.now c.eq_ignore_ascii_case.ensures.test) c.in-One.is told
