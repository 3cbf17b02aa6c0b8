use Rattle.std.proofs.Common.{map, take}
use Rattle.httparse.specs.Spans.{header_bytes}
use Rattle.http_edge.specs.Request.{values}
use Rattle.http_edge.specs.Values.{TellsValues}
use Rattle.http_edge.proofs.head.values_under.Given as goal

abbrev pub invariant-loop-field : goal.invariant-loop-field
invariant-loop-field l = TellsValues l.found (values l.name (map (header_bytes l.bytes) (take l.field-index l.fields)))
