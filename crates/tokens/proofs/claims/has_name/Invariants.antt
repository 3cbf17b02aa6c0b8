use Rattle.std.proofs.Common.{◌≡◌, drop}
use Rattle.json.specs.Value.{items_view}
use Rattle.tokens.specs.Claims.{has_name}
use Rattle.tokens.proofs.claims.has_name.Given as goal

abbrev pub invariant-loop-value : goal.invariant-loop-value
invariant-loop-value l = has_name (items_view l.value-items) l.name ≡ has_name (items_view (drop l.value-index l.value-items)) l.name
