-- What is due to a client after a history (Engine.IO protocol 4, "Heartbeat").
use Rattle.std.specs.Prelude.{ℕ, ◌-◌, max, nat_le, Bool, false, not, ◌&&◌, if◌then◌else◌, List, [], ◌∷◌, Option, None, Some, is_some, is_none}
use Rattle.std.specs.Option.{option_map_or}
use Rattle.connection.specs.declared.clock.Due.{Due}
use Rattle.connection.specs.declared.clock.Due.TheVariants.{Nothing, SendPing, PingTimeout, ConnectTimeout}
use Rattle.connection.specs.ClockHistory.{Opening, Call, Ticked, Ponged, moment, was_joined}

-- the moment of the ping whose pong is awaited: a tick answered SendPing then, and no pong followed
unfoldable pub awaited_ping : Opening → List Call → Option ℕ
awaited_ping o [] = None
awaited_ping o (Ticked now SendPing ∷ h) = Some (max (moment o h) now)
awaited_ping o (Ponged now ∷ h) = None
awaited_ping o (_ ∷ h) = awaited_ping o h

-- the moment from which the ping interval counts: the last awaited pong or,
-- without one, the opening
unfoldable pub interval_start : Opening → List Call → ℕ
interval_start o [] = o.now
interval_start o (Ponged now ∷ h) =
    if is_some (awaited_ping o h) then max (moment o h) now else interval_start o h
interval_start o (_ ∷ h) = interval_start o h

-- the pong to the awaited ping took at least the ping timeout
abbrev pub is_ping_overdue : Opening → List Call → ℕ → Bool
is_ping_overdue o h now =
    option_map_or (λ ping. nat_le o.timing.ping_timeout (now - ping)) (awaited_ping o h) false

-- nothing was joined, and at least the connection timeout passed since the opening
abbrev pub is_joining_overdue : Opening → List Call → ℕ → Bool
is_joining_overdue o h now = not (was_joined h) && nat_le o.timing.connect_timeout (now - o.now)

-- no pong is awaited, and at least the ping interval passed
abbrev pub is_ping_due : Opening → List Call → ℕ → Bool
is_ping_due o h now =
    is_none (awaited_ping o h) && nat_le o.timing.ping_interval (now - interval_start o h)

-- what is due at a moment that is no earlier than the history's: the first of these that holds
unfoldable pub due_at : Opening → List Call → ℕ → Due
due_at o h now =
    if is_ping_overdue o h now then PingTimeout
    else if is_joining_overdue o h now then ConnectTimeout
    else if is_ping_due o h now then SendPing
    else Nothing

-- what a tick answers that is handed this moment: an earlier one counts as the history's
abbrev pub due : Opening → List Call → ℕ → Due
due o h now = due_at o h (max (moment o h) now)
