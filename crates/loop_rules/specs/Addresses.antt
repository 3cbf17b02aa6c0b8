-- How many connections come from each address.
use Rattle.std.specs.Prelude.{ℕ, nat_eq, Option, None, Some}
use Rattle.std.specs.HashMap.{get}
use Rattle.loop_rules.specs.declared.dealing.Addresses.{Addresses}

abbrev pub number_of : Option ℕ → ℕ
number_of None = 0
number_of (Some n) = n

-- how many are open from an address
abbrev pub count_from : Addresses → (address : ℕ) → ℕ
count_from a address = number_of (get nat_eq a.counts address)
