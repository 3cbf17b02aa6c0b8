-- What of that which a client sends is counted as its events.
use Rattle.std.specs.Prelude.{◌==◌, ℕ, min, Bool, false, ◌||◌, List, [], ◌∷◌, count_by}
use Rattle.std.specs.List.{slice_split}

-- a packet of Engine.IO carries one of Socket.IO, or a part of one: it begins with 4 (52) or b (98)
abbrev pub carries : List ℕ → Bool
carries [] = false
carries (c ∷ cs) = c == 52 || c == 98

-- how many of these do, as far as a u64 counts
abbrev pub carrying : List (List ℕ) → ℕ
carrying packets = min (count_by carries packets) 18446744073709551615

-- and how many packets of a payload, which U+001E (30) stands between
abbrev pub carried : List ℕ → ℕ
carried payload = carrying (slice_split (λ byte. byte == 30) payload)
