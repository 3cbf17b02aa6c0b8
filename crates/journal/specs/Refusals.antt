-- Why a command is refused: the first of its reasons that holds.
use Rattle.std.specs.Prelude.{ℕ, ◌+◌, ◌-◌, ◌==◌, Bool, false, not, ◌&&◌, ◌||◌, List, [], ◌∷◌, length, is_some, nat_lt, nat_le, Option, None, Some, unwrap_or, if◌then◌else◌}
use Rattle.std.specs.List.{list_any}
use Rattle.std.specs.Option.{option_map, option_map_or}
use Rattle.terms.specs.Refusal.{first_refusal}
use Rattle.room_maps.specs.declared.error.RoomError.{RoomError}
use Rattle.room_maps.specs.Membership as room_maps
use Rattle.recovery.specs.Expiry.{is_outdated}
use Rattle.recovery.specs.PacketLog.{PlainLogged, stands}
use Rattle.recovery.specs.SavedTable.{PlainSaved}
use Rattle.recovery.specs.Missed.{missed}
use Rattle.terms.specs.declared.entry.Entry.{Entry}
use Rattle.sio_wire.specs.Offset.{is_bracket}
use Rattle.room_maps.specs.declared.error.RoomError.TheVariants.{OwnRoom, TooManyRooms}
use Rattle.terms.specs.Room.{same_room, own_room}
use Rattle.journal.specs.declared.error.HubError.{HubError}
use Rattle.journal.specs.declared.error.HubError.TheVariants.{IdTaken, UnknownClient, UnknownSocket, UnknownNamespace, AlreadyConnected, TooManyClients, OutboxFull, RoomRefused, NotRecoverable, Spent, SavedFull, BadPayload}
use Rattle.journal.specs.declared.error.RecoveryRefusal.TheVariants.{UnknownPid, Expired, OffsetGone}
use Rattle.journal.specs.declared.socket.Socket.{Socket}
use Rattle.journal.specs.declared.step.Step.{Step}
use Rattle.journal.specs.Plain.{Limits, PlainBase, PlainBroadcast, PlainRoomChange}
use Rattle.journal.specs.Membership.{is_space, open_clients, is_open, sockets, sid_of, pid_of, is_connected, sockets_of, socket_of, rooms, matches}
use Rattle.journal.specs.ManySockets.{may_enter}
use Rattle.journal.specs.Sessions.{sessions, session_with, is_sid_saved, is_pid_saved}
use Rattle.journal.specs.Log.{log}
use Rattle.journal.specs.Outboxes.{answer, waiting, total_size, entries_of, is_full}

-- a command's own refusals come before the one that a count would pass the greatest u64
abbrev pub or_spent : Option HubError → Bool → Option HubError
or_spent (Some refusal) spent = Some refusal
or_spent None spent = if spent then Some Spent else None

-- ---- of one client

abbrev pub open_refusal : PlainBase → Limits → List Step → ℕ → Option HubError
open_refusal base limits journal c =
    first_refusal
    ((is_open base journal c, IdTaken)
    ∷ (nat_le limits.clients (length (open_clients base journal)), TooManyClients)
    ∷ [])

-- of `take` and of `close`
abbrev pub client_refusal : PlainBase → List Step → ℕ → Option HubError
client_refusal base journal c = first_refusal ((not (is_open base journal c), UnknownClient) ∷ [])

abbrev pub tell_refusal : PlainBase → Limits → List Step → ℕ → Entry → Option HubError
tell_refusal base limits journal c entry =
    first_refusal
    ((not (is_open base journal c), UnknownClient)
    ∷ (is_full base limits journal c entry, OutboxFull)
    ∷ [])

abbrev pub park_refusal : PlainBase → Limits → List Step → ℕ → Option HubError
park_refusal base limits journal c =
    first_refusal (
    (not (is_open base journal c), UnknownClient)
    ∷ (
      nat_lt (limits.saved - length (sessions base limits journal))
          (length (sockets_of base journal c)),
      SavedFull,
    )
    ∷ [])

-- ---- of one socket

-- the session id or the private id is that of a connected socket or of a saved session
abbrev pub is_taken : PlainBase → Limits → List Step → Socket → Bool
is_taken base limits journal k =
    (is_connected sid_of base journal k.sid || is_sid_saved (sessions base limits journal) k.sid)
    || (is_connected pid_of base journal k.pid || is_pid_saved (sessions base limits journal) k.pid)

abbrev pub attach_refusal : PlainBase → Limits → List Step → Socket → Option HubError
attach_refusal base limits journal k =
    first_refusal (
    (not (is_open base journal k.client), UnknownClient)
    ∷ (not (is_space limits k.space), UnknownNamespace)
    ∷ (is_some (socket_of base journal k.client k.space), AlreadyConnected)
    ∷ (is_taken base limits journal k, IdTaken)
    ∷ (is_full base limits journal k.client (answer limits k), OutboxFull)
    ∷ [])

abbrev pub end_refusal : PlainBase → List Step → ℕ → Option HubError
end_refusal base journal s =
    first_refusal ((not (is_connected sid_of base journal s), UnknownSocket) ∷ [])

-- the rooms' own refusal comes after that of a socket that isn't connected
abbrev pub room_refusal : Bool → Option RoomError → Option HubError
room_refusal known refusal = if known then option_map RoomRefused refusal else Some UnknownSocket

abbrev pub join_refusal : PlainBase → List Step → ℕ → List ℕ → Option HubError
join_refusal base journal s room =
    room_refusal
    (is_connected sid_of base journal s)
    (room_maps.join_refusal (rooms base journal) s room)

abbrev pub leave_refusal : PlainBase → List Step → ℕ → List ℕ → Option HubError
leave_refusal base journal s room =
    room_refusal
    (is_connected sid_of base journal s)
    (room_maps.leave_refusal (rooms base journal) s room)

-- ---- of many sockets

-- there is no such namespace
abbrev pub space_refusal : Limits → ℕ → Option HubError
space_refusal limits space = first_refusal ((not (is_space limits space), UnknownNamespace) ∷ [])

-- a socket that matches isn't in the room and is in as many as it may be
abbrev pub joining_refusal : PlainBase → Limits → List Step → PlainRoomChange → Option HubError
joining_refusal base limits journal m =
    let is_stuck = λ (k : Socket). may_enter base journal m.space m.rooms m.excepted m.room k
    && room_maps.is_full (rooms base journal) k.sid in
    first_refusal (
    (not (is_space limits m.space), UnknownNamespace)
    ∷ (list_any is_stuck (sockets base journal), RoomRefused TooManyRooms)
    ∷ [])

-- the room is the own one of a socket that matches
abbrev pub leaving_refusal : PlainBase → Limits → List Step → PlainRoomChange → Option HubError
leaving_refusal base limits journal m =
    let is_owner = λ (k : Socket). matches base journal m.space m.rooms m.excepted k
    && same_room (own_room k.sid) m.room in
    first_refusal (
    (not (is_space limits m.space), UnknownNamespace)
    ∷ (list_any is_owner (sockets base journal), RoomRefused OwnRoom)
    ∷ [])

-- ---- of a recovery

-- why the session can't come back in this namespace with this offset
abbrev pub session_refusal :
    Limits → List PlainLogged → Option PlainSaved → (space offset at : ℕ) → Option HubError
session_refusal limits entries None space offset at = Some (NotRecoverable UnknownPid)
session_refusal limits entries (Some session) space offset at =
    first_refusal (
    (not (session.space == space), NotRecoverable UnknownPid)
    ∷ (is_outdated limits.keep at session.lost_at, NotRecoverable Expired)
    ∷ (not (stands offset entries), NotRecoverable OffsetGone)
    ∷ [])

-- there is no space for all of these entries after those that wait
abbrev pub have_no_space : Limits → List Entry → List Entry → Bool
have_no_space limits waits entries =
    nat_lt limits.capacity (length waits + length entries)
    || nat_lt limits.bytes (total_size waits + total_size entries)

-- what a recovery of the session puts
abbrev pub recovered_entries :
    PlainBase → Limits → List Step → Socket → (offset : ℕ) → (inside : List (List ℕ)) → List Entry
recovered_entries base limits journal k offset inside =
    answer limits k ∷ entries_of
    (log base limits journal) (missed offset k.space inside (log base limits journal))

abbrev pub recover_refusal :
    PlainBase → Limits → List Step → (client space pid offset at : ℕ) → Option HubError
recover_refusal base limits journal c space p offset at =
    let saved = session_with p (sessions base limits journal) in
    let refused = session_refusal limits (log base limits journal) saved space offset at in
    let crowded = λ (s : PlainSaved).
    have_no_space limits (waiting base limits journal c)
    (recovered_entries base limits journal
    (record { client = c; space = space; sid = s.sid; pid = p }) offset s.rooms) in
    first_refusal (
    (not (is_open base journal c), UnknownClient)
    ∷ (not (is_space limits space), UnknownNamespace)
    ∷ (is_some (socket_of base journal c space), AlreadyConnected)
    ∷ (is_some refused, unwrap_or refused Spent)
    ∷ (option_map_or crowded saved false, OutboxFull)
    ∷ [])

-- ---- of a broadcast

abbrev pub cast_refusal :
    Limits → (space : ℕ) → (payload : List ℕ) → (attachments : ℕ) → Option HubError
cast_refusal limits space payload attachments =
    first_refusal (
    (not (is_space limits space), UnknownNamespace)
    ∷ (not (list_any is_bracket payload) || nat_lt 32 attachments, BadPayload)
    ∷ [])

-- of a broadcast as its step holds it
abbrev pub broadcast_refusal : Limits → PlainBroadcast → Option HubError
broadcast_refusal limits b =
    first_refusal
    ((not (is_space limits b.space), UnknownNamespace)
    ∷ (nat_lt 32 (length b.entry.attachments), BadPayload)
    ∷ [])
