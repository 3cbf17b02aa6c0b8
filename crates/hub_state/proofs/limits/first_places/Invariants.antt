use Rattle.std.proofs.Common.{◌≡◌, ◌≤◌, ℕ, List, length, drop}
use Rattle.std.specs.List.{position_from}
use Rattle.std.specs.Str.{bytes_eq}
use Rattle.std.specs.BTreeMap.{get_by_text}
use Rattle.hub_state.proofs.limits.first_places.Given as goal

abbrev pub invariant-names : goal.invariant-names
invariant-names l = record {
  within : l.place ≤ length l.names;
  first : (name : List ℕ) → get_by_text l.places name ≡ position_from (bytes_eq name) l.place (drop l.place l.names);
}

abbrev pub decreases-names : goal.decreases-names
decreases-names l = l.place
