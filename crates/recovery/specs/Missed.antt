-- What a session has missed (Socket.IO server documentation, "Connection state recovery").
use Rattle.std.specs.Prelude.{ℕ, ◌==◌, Bool, not, ◌&&◌, List, [], ◌∷◌, map, filter, Option}
use Rattle.std.specs.List.{list_any}
use Rattle.terms.specs.Room.{same_room}
use Rattle.terms.specs.Audience as addressed
use Rattle.terms.specs.Refusal.{first_refusal}
use Rattle.recovery.specs.declared.error.RecoveryError.{RecoveryError}
use Rattle.recovery.specs.declared.error.RecoveryError.TheVariants.{OffsetGone}
use Rattle.recovery.specs.PacketLog.{PlainLogged, LogContents, stands, later_than}

-- the room is one of these
abbrev pub is_one_of : List (List ℕ) → List ℕ → Bool
is_one_of rooms room = list_any (λ r. same_room room r) rooms

-- a broadcast of this namespace that is for a socket in these rooms
abbrev pub is_for : (space : ℕ) (rooms : List (List ℕ)) → PlainLogged → Bool
is_for space rooms e = e.space == space && addressed.is_for e.rooms e.excepted (is_one_of rooms)

-- the offsets of the broadcasts past this one that a session in these rooms should have had
abbrev pub missed : (offset space : ℕ) (rooms : List (List ℕ)) → List PlainLogged → List ℕ
missed offset space rooms entries =
    map (λ e. e.offset) (filter (is_for space rooms) (later_than offset entries))

-- why nobody can say what was missed
abbrev pub missed_refusal : LogContents → ℕ → Option RecoveryError
missed_refusal log offset = first_refusal ((not (stands offset log.entries), OffsetGone) ∷ [])
