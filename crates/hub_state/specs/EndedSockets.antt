-- Which sockets ended, how, and in which rooms they were (Socket.IO server documentation, "Server API": the events
-- `disconnecting` and `disconnect`).
use Rattle.std.specs.Prelude.{ℕ, ◌+◌, List, [], ◌∷◌, ◌++◌, map, sum_by, Option, None, Some}
use Rattle.std.specs.List.{flat_map}
use Rattle.room_maps.specs.Membership.{RoomSets}
use Rattle.journal.specs.declared.socket.Socket.{Socket}
use Rattle.journal.specs.declared.step.Step.{Step}
use Rattle.journal.specs.declared.step.What.{What}
use Rattle.journal.specs.declared.step.What.TheVariants.{Parked, Ended, AllEnded, Closed}
use Rattle.recovery.specs.PacketLog.{rooms_size}
use Rattle.journal.specs.Plain.{PlainBase}
use Rattle.journal.specs.Journal.{History}
use Rattle.journal.specs.Totals as totals
use Rattle.journal.specs.Membership.{rooms, sockets_of, socket_with, sid_of}
use Rattle.journal.specs.Sessions.{rooms_rising}
use Rattle.journal.specs.Casting.{in_space}
use Rattle.journal.specs.declared.ending.Ending.{Ending}
use Rattle.journal.specs.declared.ending.Ending.TheVariants as ending

-- a socket, the rooms that it was in, and how it ended
pub record PlainEnded : Type 0 where
  pub socket : Socket
  pub rooms : List (List ℕ)
  pub ending : Ending

-- the socket ends so, in the rooms that it is in
abbrev pub as_ended : Ending → RoomSets → Socket → PlainEnded
as_ended how sets k = record { socket = k; rooms = rooms_rising sets k.sid; ending = how }

-- the socket that was found, if one was
abbrev pub found : Option Socket → List Socket
found None = []
found (Some k) = k ∷ []

-- the sockets that a step ends
abbrev pub sockets_ended_by : PlainBase → List Step → What → List PlainEnded
sockets_ended_by base before (Ended s by) = map (as_ended (ending.Alone by) (rooms base before)) (found (socket_with sid_of base before s))
sockets_ended_by base before (AllEnded d) =
    map (as_ended ending.Together (rooms base before)) (flat_map (λ s. in_space d.space (socket_with sid_of base before s)) d.ended)
sockets_ended_by base before (Parked c) = map (as_ended ending.Saved (rooms base before)) (sockets_of base before c)
sockets_ended_by base before (Closed c) = map (as_ended ending.Closed (rooms base before)) (sockets_of base before c)
sockets_ended_by base before _ = []

-- those that ended since the base, in the order in which they did
unfoldable pub ended_sockets : PlainBase → List Step → List PlainEnded
ended_sockets base [] = []
ended_sockets base (step ∷ before) = ended_sockets base before ++ sockets_ended_by base before step.what

-- the bytes in which a socket that ended is held: 96 for itself, and those of its rooms
abbrev pub ended_size : PlainEnded → ℕ
ended_size e = 96 + rooms_size e.rooms

-- the bytes that the steps since the base own, and those in which the sockets are held that they ended
abbrev pub held : History → ℕ
held h = totals.held h.journal + sum_by ended_size (ended_sockets h.base h.journal)
