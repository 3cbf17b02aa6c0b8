use Rattle.std.specs.Prelude.{IsOk}
use Rattle.http_edge.specs.Taken.{TakesPart, ReadsMore}
use Rattle.http_edge.proofs.request.read_request.Given as goal

abbrev pub invariant-loop-turn : goal.invariant-loop-turn
invariant-loop-turn g l =
    IsOk l.gathered
    × TakesPart (g.W.Wire.left l.fn.wire) (g.W.Wire.left l.wire) l.gathered
    × ReadsMore (g.W.Wire.reads l.fn.wire) (g.W.Wire.reads l.wire) l._turn
