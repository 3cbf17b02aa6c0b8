-- How far a server is, and which connections have a place.
use Rattle.std.specs.Prelude.{◌≡◌, ◌≢◌, ℕ, ◌+◌, ◌<◌, min, Bool, false, ◌&&◌, ◌==◌, Option, None, Some, option_map}
use Rattle.loop_rules.specs.declared.dealing.Addresses.{Addresses}
use Rattle.loop_rules.specs.Addresses.{count_from}
use Rattle.tcp_streams.specs.declared.shared.Standing.{Standing}

-- one more from the address may be open, where that is bounded
abbrev pub HasPlace : Option Addresses → (from : ℕ) → Type 0
HasPlace None from = Unit {0}
HasPlace (Some a) from = count_from a from < a.most

-- it has none: that is bounded, and where some are open from the address they are as many as may be
abbrev pub IsCrowded : Option Addresses → (from : ℕ) → Type 0
IsCrowded None from = ⊥
IsCrowded (Some a) from = 0 < count_from a from → ¬ (count_from a from < a.most)

-- how many are open from the address changes so, where that is bounded, and no other address's number does
abbrev pub Counts : (change : ℕ → ℕ) → (from : ℕ) → (old new : Option Addresses) → Type 0
Counts change from None None = Unit {0}
Counts change from (Some a) (Some b) = (b.most ≡ a.most) × (count_from b from ≡ change (count_from a from))
    × ((other : ℕ) → other ≢ from → count_from b other ≡ count_from a other)
Counts change from _ _ = ⊥

-- none is open from any address
abbrev pub HasNone : Option Addresses → Type 0
HasNone None = Unit {0}
HasNone (Some a) = (from : ℕ) → count_from a from ≡ 0

-- nothing is open, and more is to come; from one address so many, where that is bounded
pub record Begins (most : Option ℕ) (s : Standing) : Type 0 where
  pub connections : s.connections ≡ 0
  pub closing : s.closing ≡ false
  pub cutting : s.cutting ≡ false
  pub none : HasNone s.addresses
  pub bound : option_map (λ (a : Addresses). a.most) s.addresses ≡ most

-- nothing is open, and no more is accepted
abbrev pub is_over : Standing → Bool
is_over s = s.closing && s.connections == 0

-- it accepts and ends as before
abbrev pub IsAsFar : (old new : Standing) → Type 0
IsAsFar old new = (new.closing ≡ old.closing) × (new.cutting ≡ old.cutting)

-- one more from the address is open, as far as a u64 counts
pub record Admits (from : ℕ) (old new : Standing) : Type 0 where
  pub connections : new.connections ≡ min (old.connections + 1) 18446744073709551615
  pub addresses : Counts (λ n. n + 1) from old.addresses new.addresses
  pub far : IsAsFar old new

-- as many are open as before
pub record Stays (from : ℕ) (old new : Standing) : Type 0 where
  pub connections : new.connections ≡ old.connections
  pub addresses : Counts (λ n. n) from old.addresses new.addresses
  pub far : IsAsFar old new
