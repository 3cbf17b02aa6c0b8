-- The ids that a loop draws from a generator of random numbers.
use Rattle.std.specs.Prelude.{ℕ, zero, suc}
use Rattle.rand_core.specs.Stream.{Stream, next_u64}
use Rattle.loop_rules.specs.Ids.{marked}

-- what is left of a generator's answers once two words were drawn
abbrev pub after_two : Stream → Stream
after_two s = (next_u64 (next_u64 s).1).1

-- the ids that a loop draws from a generator
abbrev pub drawn_ids : ℕ → Stream → ℕ → ℕ
drawn_ids number s zero = marked number (next_u64 s).0 (next_u64 (next_u64 s).1).0
drawn_ids number s (suc k) = drawn_ids number (after_two s) k
