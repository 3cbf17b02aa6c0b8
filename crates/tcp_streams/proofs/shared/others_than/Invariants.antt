use Rattle.std.proofs.Common.{◌≡◌, take}
use Rattle.tcp_streams.specs.Backends.{others_than}
use Rattle.tcp_streams.proofs.shared.others_than.Given as goal

abbrev pub invariant-loop-name : goal.invariant-loop-name
invariant-loop-name l = l.others.items ≡ others_than l.space (take l.name-index l.names)
