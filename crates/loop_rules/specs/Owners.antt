-- Which loop serves a connection: the one that has the client of its request.
use Rattle.std.specs.Prelude.{ℕ}
use Rattle.http_edge.specs.declared.routes.Target.{Target}
use Rattle.http_edge.specs.declared.routes.Target.TheVariants as target
use Rattle.loop_rules.specs.Ids.{loop_of}

-- the loop that serves it; a new client's is the one that it came to
abbrev pub owner_among : ℕ → ℕ → Target → ℕ
owner_among loops own (target.Poll c) = loop_of c loops
owner_among loops own (target.Post c) = loop_of c loops
owner_among loops own (target.ProbeSocket c) = loop_of c loops
owner_among loops own _ = own
