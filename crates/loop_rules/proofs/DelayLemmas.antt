-- Who was told just so that nothing waits.
use Rattle.std.proofs.Common.{◌≡◌, ◌∙◌, ℕ, List, Option, None, Some, nat_eq, refl, ap}
use Rattle.std.specs.List.{filter, IsDistinct}
use Rattle.std.specs.Map.{lookup, keys_of}
use Rattle.std.proofs.lemmas.Cmp.{nat_eq_equiv}
use Rattle.std.proofs.lemmas.Map.Entries.{lookup-filter-values, option_filter}
use Rattle.peers.specs.Noops.{is_recent}
use Rattle.loop_rules.specs.Delays.{if_recent}

kept_is : (now : ℕ) (told : Option ℕ) → option_filter (λ t. is_recent t now) told ≡ if_recent now told
kept_is now None = refl
kept_is now (Some told) = refl

pub found_recent : (now client : ℕ) (old new : List (ℕ × ℕ)) → new ≡ filter (λ e. is_recent e.1 now) old
    → IsDistinct nat_eq (keys_of old) → lookup (nat_eq client) new ≡ if_recent now (lookup (nat_eq client) old)
found_recent now client old new is distinct =
    ap (lookup (nat_eq client)) is ∙ lookup-filter-values nat_eq_equiv (λ t. is_recent t now) client old distinct
    ∙ kept_is now (lookup (nat_eq client) old)
