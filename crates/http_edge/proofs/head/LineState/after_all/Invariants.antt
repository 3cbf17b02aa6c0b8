use Rattle.std.proofs.Common.{◌≡◌, take}
use Rattle.http_edge.specs.LineState.{walk}
use Rattle.http_edge.proofs.head.LineState.after_all.Given as goal

abbrev pub invariant-loop-byte : goal.invariant-loop-byte
invariant-loop-byte l = l.line ≡ walk l.fn.self (take l.byte-index l.bytes)
