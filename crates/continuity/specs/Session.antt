-- What a session keeps while its client is connected and while it is lost (Socket.IO server
-- documentation, "Connection state recovery").
use Rattle.std.specs.Prelude.{ℕ, ◌==◌, Bool, false, ◌&&◌, List, Option}
use Rattle.std.specs.Option.{option_map, option_map_or, option_or}
use Rattle.room_maps.specs.Membership.{is_in}
use Rattle.terms.specs.Audience as broadcast
use Rattle.recovery.specs.SavedTable.{PlainSaved}
use Rattle.recovery.specs.Missed.{is_one_of}
use Rattle.journal.specs.declared.socket.Socket.{Socket}
use Rattle.journal.specs.declared.step.Step.{Step}
use Rattle.journal.specs.Plain.{Limits, PlainBase, PlainBroadcast}
use Rattle.journal.specs.Membership.{pid_of, socket_with, rooms}
use Rattle.journal.specs.Sessions.{sessions, session_with}

-- a session's namespace, and which rooms are its rooms
pub record Kept : Type 0 where
  pub space : ℕ
  pub is_room : List ℕ → Bool

-- of a connected socket: its namespace, and the rooms that it is in
abbrev pub kept_by_socket : PlainBase → List Step → Socket → Kept
kept_by_socket base journal k =
    record { space = k.space; is_room = is_in (rooms base journal) k.sid }

-- of a lost session: its namespace, and the rooms that were saved
abbrev pub kept_by_saved : PlainSaved → Kept
kept_by_saved s = record { space = s.space; is_room = is_one_of s.rooms }

-- what the session with this private id keeps: its socket's while that is connected,
-- else what was saved of it
unfoldable pub kept : PlainBase → Limits → List Step → ℕ → Option Kept
kept base limits journal p =
    option_or (option_map (kept_by_socket base journal) (socket_with pid_of base journal p))
    (option_map kept_by_saved (session_with p (sessions base limits journal)))

-- the room is one of the session's rooms
abbrev pub kept_rooms : PlainBase → Limits → List Step → ℕ → List ℕ → Bool
kept_rooms base limits journal p room =
    option_map_or (λ (k : Kept). k.is_room room) (kept base limits journal p) false

-- the broadcast is for such a session: it is in its namespace, to no room or to one of its rooms,
-- and excepts none of them
abbrev pub is_for : PlainBroadcast → Kept → Bool
is_for b k = b.space == k.space && broadcast.is_for b.rooms b.excepted k.is_room
