-- The pace of lone noop packets, by which a client that polls is told that nothing waits.
use Rattle.std.specs.Prelude.{ℕ, ◌+◌, nat_lt, min, Bool, false, Option, None, Some, Ok, cond, codes, bytes_eq}
use Rattle.events.specs.declared.outcome.Outcome.TheVariants as outcome
use Rattle.events.specs.Answer.{Answer}

-- a lone noop packet was taken
abbrev pub is_noop : Answer → Bool
is_noop (Ok (outcome.Payload text)) = bytes_eq text (codes "6")
is_noop _ = false

-- a pace of 100 milliseconds later, as far as a u64 goes
abbrev pub a_pace_after : ℕ → ℕ
a_pace_after moment = min (moment + 100) 18446744073709551615

-- less than a pace has passed since a client was told
abbrev pub is_recent : (told now : ℕ) → Bool
is_recent told now = nat_lt now (a_pace_after told)

-- a GET whose client was told just now is served a pace after it came, and any other one at once
abbrev pub served_from : Option ℕ → ℕ → ℕ
served_from None now = now
served_from (Some told) now = cond (is_recent told now) (a_pace_after now) now
