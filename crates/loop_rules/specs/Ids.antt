-- Ids that tell which loop drew them.
use Rattle.std.specs.Prelude.{ℕ, ◌+◌, ◌*◌, ◌/◌, ◌%◌, ◌^◌}

-- the most loops that a server may have
abbrev pub LOOPS : ℕ
LOOPS = 1024

-- two drawn words as one number, whose low bits are exchanged for the number of a loop
abbrev pub marked : ℕ → ℕ → ℕ → ℕ
marked number high low =
    let drawn : ℕ = high * 2 ^ 64 + low in
    drawn / LOOPS * LOOPS + number

-- which of so many loops has the client with this id
abbrev pub loop_of : ℕ → ℕ → ℕ
loop_of id loops = (id % LOOPS) % loops
