use Rattle.std.proofs.Common.{◌≡◌, ◌++◌, take, string_bytes}
use Rattle.std.specs.List.{flat_map}
use Rattle.metrics.specs.Metrics as metrics
use Rattle.metrics.proofs.metrics.connections_text.Given as goal

abbrev pub invariant-loop-it : goal.invariant-loop-it
invariant-loop-it l = string_bytes l.text ≡ string_bytes l.initial.text ++ flat_map metrics.connections_of (take l.it-index l.loops)
