-- What isn't whole, of each one by its number.
use Rattle.std.specs.Prelude.{ℕ, Option, None, Some, cond, find, nat_eq, option_map, sum_by}
use Rattle.std.specs.HashMap.{HashMap, values}
use Rattle.loop_rules.specs.Deadlines.{has_stopped}
use Rattle.loop_rules.specs.declared.receiving.Part.{Part}

-- how many bytes these are
abbrev pub bytes_in : Option Part → ℕ
bytes_in None = 0
bytes_in (Some part) = part.bytes

-- how many bytes all have
abbrev pub sum_of : {S : Type 0} → HashMap ℕ Part S → ℕ
sum_of parts = sum_by (λ part. part.bytes) (values parts)

-- one has so many bytes now: it moves where that is another number than before
abbrev pub noted : ℕ → ℕ → Option Part → Option Part
noted bytes now old =
    cond (nat_eq bytes (bytes_in old)) old
    (cond (nat_eq bytes 0) None (Some (record { bytes = bytes; moved = now })))

-- it was to stay as it is until now
abbrev pub kept_until : ℕ → Option Part → Option Part
kept_until now None = None
kept_until now (Some part) = Some (record part { moved = now })

-- the first one whose bytes didn't change for so long that they are given up, in the map's order
abbrev pub first_stale : {S : Type 0} → ℕ → HashMap ℕ Part S → Option ℕ
first_stale now parts = option_map (λ e. e.0) (find (λ e. has_stopped e.1.moved now) parts.entries)
