use Rattle.std.proofs.Common.{◌≡◌}
use Rattle.tcp_streams.specs.Outputs.{waiting}
use Rattle.tcp_loops.proofs.stream.drain.Given as goal

-- reading leaves what waits
abbrev pub invariant-loop : goal.invariant-loop
invariant-loop l = waiting l.stream ≡ waiting l.initial.stream
