-- What is saved of sockets that are lost, read from the rooms as they are kept (Socket.IO server
-- documentation, "Connection state recovery").
use Rattle.std.specs.Prelude.{◌≡◌, ℕ, ◌==◌, Bool, false, not, List, map, filter}
use Rattle.std.specs.List.{list_any, AllByRecursion}
use Rattle.room_maps.specs.Membership.{RoomSets}
use Rattle.recovery.specs.SavedTable.{PlainSaved, TableContents}
use Rattle.journal.specs.declared.socket.Socket.{Socket}
use Rattle.journal.specs.Sessions.{rooms_rising, with_sessions}

-- the session of a socket that is lost at a moment, with the rooms that it is in
abbrev pub lost_in : RoomSets → ℕ → Socket → PlainSaved
lost_in sets at k =
    record {
      sid = k.sid;
      pid = k.pid;
      space = k.space;
      rooms = rooms_rising sets k.sid;
      lost_at = at;
    }

-- one of these sockets has the session's private id
abbrev pub is_of : List Socket → PlainSaved → Bool
is_of ks s = list_any (λ (k : Socket). k.pid == s.pid) ks

-- no session of the table is of one of these sockets
abbrev pub HasNoneOf : List Socket → TableContents → Type 0
HasNoneOf ks table = AllByRecursion (λ (s : PlainSaved). is_of ks s ≡ false) table.sessions

-- the table with the sessions of these sockets too
abbrev pub with_lost : RoomSets → ℕ → List Socket → TableContents → TableContents
with_lost sets at ks table =
    record {
      limit = table.limit;
      sessions = with_sessions (map (lost_in sets at) ks) table.sessions;
    }

-- the table without the sessions of these sockets
abbrev pub without_lost : List Socket → TableContents → TableContents
without_lost ks table =
    record {
      limit = table.limit;
      sessions = filter (λ (s : PlainSaved). not (is_of ks s)) table.sessions;
    }
