use Rattle.std.proofs.Common.{◌≡◌, ℕ, List}
use Rattle.http_edge.specs.SoFar.{fed}
use Rattle.tcp_streams.specs.Outputs.{waiting}
use Rattle.tcp_loops.proofs.stream.read_request.Given as goal

-- what came so far was fed, and reading leaves what waits
abbrev pub invariant-loop : goal.invariant-loop
invariant-loop l = record {
  stays : waiting l.stream ≡ waiting l.initial.stream;
  fed : (read : List ℕ) × (l.gathered ≡ fed l.initial.gathered read);
}
