use Rattle.std.proofs.Common.{rules}
use Rattle.httparse.specs.Spans.{header_bytes}
use Rattle.http_edge.specs.Request.{is_upgrade}
use Rattle.http_edge.proofs.FieldLemmas.{passed_at}
use Rattle.http_edge.proofs.head.asks_upgrade.Goals as goal

pub returns-then-upgrades : goal.returns-then-upgrades
returns-then-upgrades c =
    passed_at (header_bytes c.args.bytes.now) is_upgrade c.args.fields.now c.loop-field.field-index _ _ c.upgrades.ensures (search rules) (search rules)
