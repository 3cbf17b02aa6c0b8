-- What an event did, as plain data.
use Rattle.std.specs.Prelude.{ℕ, ◌+◌, ◌==◌, min, Bool, false, not, Option, None, List, [], ◌∷◌, ◌++◌, filter}
use Rattle.std.specs.Option.{option_or}
use Rattle.room_maps.specs.declared.error.RoomError.{RoomError}
use Rattle.events.specs.declared.cause.Cause.{Cause}

-- how many packets and effects were done, what was skipped first, whether an answer was ignored, why the client was
-- closed, the clients that each broadcast put an entry for, but for the event's own, and how many bytes of attachments are
-- held of the client's packet that isn't whole
pub record PlainDone : Type 0 where
  pub packets : ℕ
  pub effects : ℕ
  pub skipped : Option RoomError
  pub ignored : Bool
  pub closed : Option Cause
  pub clients : List (List ℕ)
  pub unfinished : ℕ

-- nothing was done
abbrev pub nothing_done : PlainDone
nothing_done = record { packets = 0; effects = 0; skipped = None; ignored = false; closed = None; clients = []; unfinished = 0 }

-- one packet more was done
abbrev pub one_packet_more : PlainDone → PlainDone
one_packet_more done = record done { packets = min (done.packets + 1) 18446744073709551615 }

-- one effect more was done
abbrev pub one_more : PlainDone → PlainDone
one_more done = record done { effects = min (done.effects + 1) 18446744073709551615 }

-- an effect was skipped for this reason, or not: the first reason is kept
abbrev pub noted : Option RoomError → PlainDone → PlainDone
noted refused done = record done { skipped = option_or done.skipped refused }

-- these clients got something; the event's own is left out
abbrev pub told : ℕ → List ℕ → PlainDone → PlainDone
told c ids done = record done { clients = done.clients ++ filter (λ d. not (d == c)) ids ∷ [] }

-- lists of clients, one for each broadcast, and how many more can be added
pub record PlainReceivers : Type 0 where
  pub lists : List (List ℕ)
  pub free : ℕ
