-- The places of attachments in a payload (Socket.IO protocol 5, "Packet encoding").
use Rattle.std.specs.Prelude.{◌≡◌, ◌<◌, ◌⊎◌, ℕ, Some, true, codes, option_and_then, IsSomeAnd}
use Rattle.serde_json.specs.Data.{Data, null, boolean, number, string, array, object, Items, no_items, item, Members, no_members, member}
use Rattle.serde_json.specs.Find.{get, as_bool, as_number, as_u64}

-- o is the tree v, or stands in it at any depth
abbrev mutual
  pub IsWithin : Data → Data → Type 0
  IsWithin o null = o ≡ null
  IsWithin o (boolean b) = o ≡ boolean b
  IsWithin o (number n) = o ≡ number n
  IsWithin o (string s) = o ≡ string s
  IsWithin o (array ds) = (o ≡ array ds) ⊎ IsWithinItems o ds
  IsWithin o (object ms) = (o ≡ object ms) ⊎ IsWithinMembers o ms

  pub IsWithinItems : Data → Items → Type 0
  IsWithinItems o no_items = ⊥
  IsWithinItems o (item d ds) = IsWithin o d ⊎ IsWithinItems o ds

  pub IsWithinMembers : Data → Members → Type 0
  IsWithinMembers o no_members = ⊥
  IsWithinMembers o (member k d ms) = IsWithin o d ⊎ IsWithinMembers o ms

-- an object whose `_placeholder` is `true`
abbrev pub IsPlaceholder : Data → Type 0
IsPlaceholder o = option_and_then as_bool (get (codes "_placeholder") o) ≡ Some true

-- an object whose `num` is a whole number below n, which `serde_json` reads as unsigned: it has no
-- sign, no fraction and no exponent
abbrev pub HasNumberBelow : ℕ → Data → Type 0
HasNumberBelow n o = IsSomeAnd
    (option_and_then as_u64 (option_and_then as_number (get (codes "num") o))) (λ k. k < n)

-- each placeholder in the tree v has a number below n
abbrev pub Placed : Data → ℕ → Type 0
Placed v n = (o : Data) → IsWithin o v → IsPlaceholder o → HasNumberBelow n o

-- the same of each of these items
abbrev pub PlacedItems : Items → ℕ → Type 0
PlacedItems ds n = (o : Data) → IsWithinItems o ds → IsPlaceholder o → HasNumberBelow n o

-- the same of each of these members
abbrev pub PlacedMembers : Members → ℕ → Type 0
PlacedMembers ms n = (o : Data) → IsWithinMembers o ms → IsPlaceholder o → HasNumberBelow n o
