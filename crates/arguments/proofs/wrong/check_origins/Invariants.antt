use Rattle.std.proofs.Common.{◌≡◌, map, take, true}
use Rattle.std.specs.Prelude.{string_bytes}
use Rattle.arguments.specs.Wrong.{are_origins}
use Rattle.arguments.proofs.wrong.check_origins.Given as goal

abbrev pub invariant-loop-origin : goal.invariant-loop-origin
invariant-loop-origin l = are_origins (map string_bytes (take l.origin-index l.origins)) ≡ true
