-- A map from keys to sets, read as the set of its links: a key, and a value of its set.
use Rattle.std.specs.Prelude.{◌≡◌, ◌≢◌, Bool, false, ◌&&◌, ◌||◌, [], is_some, IfSome, Option, None, Some}
use Rattle.std.specs.declared.cmp.Ordering.{Ordering}
use Rattle.std.specs.Ordering.{eq_by_cmp}
use Rattle.std.specs.BTreeMap.{BTreeMap}
use Rattle.std.specs.BTreeMap as tree
use Rattle.std.specs.BTreeSet.{BTreeSet}
use Rattle.std.specs.BTreeSet as sorted

-- whether there is a set, and the value is in it
abbrev pub is_in_some : {V : Type 0} → (V → V → Ordering) → Option (BTreeSet V) → V → Bool
is_in_some S None v = false
is_in_some S (Some set) v = sorted.contains S set v

module _ {K V : Type 0} (R : K → K → Ordering) (S : V → V → Ordering) where
  -- whether the set at the key has the value
  abbrev pub is_linked : BTreeMap K (BTreeSet V) → K → V → Bool
  is_linked m k v = is_in_some S (tree.get R m k) v

  -- n has the links and the keys of m
  abbrev pub IsUnchanged : BTreeMap K (BTreeSet V) → BTreeMap K (BTreeSet V) → Type 0
  IsUnchanged m n = ((k : K) (v : V) → is_linked n k v ≡ is_linked m k v)
      × ((k : K) → is_some (tree.get R n k) ≡ is_some (tree.get R m k))

  -- n is m with this link more
  pub record AddsLink (m n : BTreeMap K (BTreeSet V)) (k : K) (v : V) : Type 0 where
    pub links : (q : K) (w : V) → is_in_some S (tree.get R n q) w
        ≡ ((eq_by_cmp R k q && eq_by_cmp S v w) || is_in_some S (tree.get R m q) w)
    pub keys : (q : K) → is_some (tree.get R n q) ≡ (eq_by_cmp R k q || is_some (tree.get R m q))

module _ {K V : Type 0} (R : K → K → Ordering) where
  -- no key has an empty set
  abbrev pub HasNoEmptySet : BTreeMap K (BTreeSet V) → Type 0
  HasNoEmptySet m = (k : K) → IfSome (tree.get R m k) (λ set. set.keys ≢ [])
