-- The sessions that may come back (Socket.IO server documentation, "Connection state recovery").
use Rattle.std.specs.Prelude.{ℕ, ◌==◌, Bool, not, List, [], ◌∷◌, map, filter, Option}
use Rattle.std.specs.List.{list_any, find}
use Rattle.std.specs.FinSet as set
use Rattle.std.specs.FinMap.{keys, from_entries}
use Rattle.journal.specs.declared.socket.Socket.{Socket}
use Rattle.journal.specs.declared.step.Step.{Step}
use Rattle.journal.specs.declared.step.What.{What}
use Rattle.journal.specs.declared.step.What.TheVariants.{Recovered, Parked, Swept}
use Rattle.terms.specs.Room.{room_cmp}
use Rattle.room_maps.specs.Membership.{RoomSets, rooms_in}
use Rattle.recovery.specs.Expiry.{is_outdated}
use Rattle.recovery.specs.SavedTable.{PlainSaved, with_session}
use Rattle.journal.specs.Plain.{Limits, PlainBase}
use Rattle.journal.specs.Membership.{sockets_of, rooms}

-- the rooms that a socket is in, each once, rising by their bytes
abbrev pub rooms_rising : RoomSets → ℕ → List (List ℕ)
rooms_rising sets sid = keys
    (from_entries {R = room_cmp} (map (λ room. (room, tt {0})) (set.items (rooms_in sets sid))))

-- the session of a socket that is lost at a moment, with the rooms that it is in
abbrev pub lost_session : PlainBase → List Step → ℕ → Socket → PlainSaved
lost_session base before at k =
    record {
      sid = k.sid;
      pid = k.pid;
      space = k.space;
      rooms = rooms_rising (rooms base before) k.sid;
      lost_at = at;
    }

-- these sessions and more, all in the order of private ids
abbrev pub with_sessions : List PlainSaved → List PlainSaved → List PlainSaved
with_sessions [] saved = saved
with_sessions (s ∷ ss) saved = with_sessions ss (with_session s saved)

-- a parked client leaves the sessions of its sockets, a recovery takes its own, a sweep
-- those that are outdated
abbrev pub sessions_after :
    PlainBase → Limits → List Step → ℕ → List PlainSaved → What → List PlainSaved
sessions_after base limits before at saved (Parked c) =
    with_sessions (map (lost_session base before at) (sockets_of base before c)) saved
sessions_after base limits before at saved (Recovered r) =
    filter (λ (s : PlainSaved). not (s.pid == r.socket.pid)) saved
sessions_after base limits before at saved Swept =
    filter (λ (s : PlainSaved). not (is_outdated limits.keep at s.lost_at)) saved
sessions_after base limits before at saved _ = saved

-- the saved sessions, rising by private id
unfoldable pub sessions : PlainBase → Limits → List Step → List PlainSaved
sessions base limits [] = base.saved
sessions base limits (step ∷ before) =
    sessions_after base limits before step.at (sessions base limits before) step.what

-- the saved session with this private id
abbrev pub session_with : ℕ → List PlainSaved → Option PlainSaved
session_with p saved = find (λ (s : PlainSaved). s.pid == p) saved

-- a saved session has this session id, or this private id
abbrev pub is_sid_saved : List PlainSaved → ℕ → Bool
is_sid_saved saved s = list_any (λ (t : PlainSaved). t.sid == s) saved

abbrev pub is_pid_saved : List PlainSaved → ℕ → Bool
is_pid_saved saved p = list_any (λ (t : PlainSaved). t.pid == p) saved
