-- Which connection what is put for a client goes to.
use Rattle.std.specs.Prelude.{ℕ, Bool, false, Option, None, Some, nat_eq}
use Rattle.std.specs.HashMap.{get}
use Rattle.loop_rules.specs.declared.roster.Takers.{Takers}

-- the key of the connection
abbrev pub taker_of : Takers → ℕ → Option ℕ
taker_of t client = get nat_eq t.keys client

abbrev pub is_taker : Option ℕ → ℕ → Bool
is_taker None key = false
is_taker (Some taker) key = nat_eq taker key
