-- Whose clients aren't read, since what waits for their backend is much.
use Rattle.std.specs.Prelude.{◌≡◌, ℕ, ◌-◌, ◌*◌, ◌==◌, Bool, false, not, ◌&&◌, ◌||◌, nat_eq, nat_le, nat_lt, Option, bit_and, if◌then◌else◌}
use Rattle.std.specs.HashMap.{get}
use Rattle.std.specs.Option.{option_map_or}
use Rattle.loop_rules.specs.declared.pressure.Backlog.{Backlog}
use Rattle.loop_rules.specs.declared.pressure.Pressure.{Pressure}

-- three quarters of the places or of the bytes are taken
abbrev pub is_much : Backlog → Bool
is_much b = nat_le (3 * b.most_entries) (4 * b.entries) || nat_le (3 * b.most_bytes) (4 * b.bytes)

-- less than half of both is taken
abbrev pub is_low : Backlog → Bool
is_low b = nat_lt (2 * b.entries) b.most_entries && nat_lt (2 * b.bytes) b.most_bytes

-- the digits with which the ids of a client's sockets begin, a bit each, as far as it is known
abbrev pub known : Pressure → (client : ℕ) → Option ℕ
known p client = get nat_eq p.digits client

-- no backend is pressed, and clients aren't read for so long at a stretch
abbrev pub IsCalm : (stretch : ℕ) → Pressure → Type 0
IsCalm stretch p = (p.pressed ≡ 0) × (p.stretch ≡ stretch)

-- which backends are pressed, and since when, stays the same
abbrev pub IsSame : (old new : Pressure) → Type 0
IsSame old new = (new.pressed ≡ old.pressed) × (new.since ≡ old.since) × (new.stretch ≡ old.stretch)

-- some digit is among both
abbrev pub meets : (digits pressed : ℕ) → Bool
meets digits pressed = not (bit_and digits pressed == 0)

-- the backends of these digits are pressed: some from an earlier moment on, or from now on
abbrev pub pressed_at : (now digits : ℕ) → Pressure → Pressure
pressed_at now digits p = record p { pressed = digits; since = if p.pressed == 0 then now else p.since }

-- a backend of one of its sockets is pressed, and some have been so for less than a stretch
abbrev pub holds : Pressure → (client now : ℕ) → Bool
holds p client now =
    not (p.pressed == 0) && nat_lt (now - p.since) p.stretch && option_map_or (λ digits. meets digits p.pressed) (known p client) false
