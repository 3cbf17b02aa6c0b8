use Rattle.std.proofs.Common.{◌≡◌, false, map, take}
use Rattle.std.specs.List.{list_any}
use Rattle.httparse.specs.Spans.{header_bytes}
use Rattle.http_edge.specs.Request.{is_upgrade}
use Rattle.http_edge.proofs.head.asks_upgrade.Given as goal

abbrev pub invariant-loop-field : goal.invariant-loop-field
invariant-loop-field l = list_any is_upgrade (map (header_bytes l.bytes) (take l.field-index l.fields)) ≡ false
