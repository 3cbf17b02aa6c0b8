-- What all have, after one has more or less.
use Rattle.std.proofs.Common.{◌≡◌, ◌+◌, ◌≤◌, ℕ, true, Option, None, Some, Result, Ok, Err, nat_eq, refl, arith, ap, is_ok, IfOk, option_map, unwrap_or}
use Rattle.std.specs.HashMap.{HashMap, get, PutsEntry}
use Rattle.std.specs.Prelude.{IsPermutation}
use Rattle.std.specs.Map.{remove_entry}
use Rattle.std.proofs.lemmas.Map.Entries.{sum_by-remove_entry, sum_by_puts_entry, sum_by_values_permutation}
use Rattle.loop_rules.specs.Parts.{bytes_in, sum_of}
use Rattle.loop_rules.specs.declared.receiving.Part.{Part}

bytes_weigh : (o : Option Part) → unwrap_or (option_map (λ (p : Part). p.bytes) o) 0 ≡ bytes_in o
bytes_weigh None = refl
bytes_weigh (Some part) = refl

module _ {S : Type 0} (m : HashMap ℕ Part S) where
  -- one has no more than all
  pub part_below : (k : ℕ) → bytes_in (get nat_eq m k) ≤ sum_of m
  part_below k =
      omega (arith, sum_by-remove_entry (λ (p : Part). p.bytes) (nat_eq k) m.entries, bytes_weigh (get nat_eq m k))

  module _ (n : HashMap ℕ Part S) (k : ℕ) where
    -- one is gone
    pub removed_sum : IsPermutation (remove_entry (nat_eq k) m.entries) n.entries → sum_of n + bytes_in (get nat_eq m k) ≡ sum_of m
    removed_sum same =
        omega (
          arith,
          sum_by_values_permutation (λ (p : Part). p.bytes) _ _ same,
          sum_by-remove_entry (λ (p : Part). p.bytes) (nat_eq k) m.entries,
          bytes_weigh (get nat_eq m k),
        )

    -- one was put
    pub put_sum : {E : Type 0} (v : Part) (r : Result (Option Part) E) → is_ok r ≡ true → IfOk r (λ old. old ≡ get nat_eq m k)
        → IfOk r (PutsEntry nat_eq m n k v) → sum_of n + bytes_in (get nat_eq m k) ≡ sum_of m + v.bytes
    put_sum v (Ok old) put was puts =
        omega (arith, sum_by_puts_entry (λ (p : Part). p.bytes) nat_eq m n k v old was puts, bytes_weigh old, ap bytes_in was)
    put_sum v (Err _) put was puts = absurd (cc)
