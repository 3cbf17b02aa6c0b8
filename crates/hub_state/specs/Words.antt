-- What a history says, in words for the clauses of a hub that has it.
use Rattle.std.specs.Prelude.{ℕ, ◌&&◌, Bool, List, [], length, min, Option, None, Some, if◌then◌else◌}
use Rattle.std.specs.Ordering.{nat_cmp}
use Rattle.terms.specs.Listing.{ListsRising}
use Rattle.terms.specs.declared.entry.Entry.{Entry}
use Rattle.room_maps.specs.Membership.{RoomSets, is_in}
use Rattle.recovery.specs.PacketLog.{PlainLogged, IsRun, number_of}
use Rattle.recovery.specs.SavedTable.{PlainSaved}
use Rattle.continuity.specs.Truly.{HearsWhatIsDue}
use Rattle.journal.specs.declared.error.HubError.{HubError}
use Rattle.journal.specs.declared.socket.Socket.{Socket}
use Rattle.journal.specs.declared.step.What.{What}
use Rattle.journal.specs.declared.step.What.TheVariants.{Told, Took}
use Rattle.journal.specs.Plain.{PlainBroadcast, PlainDismissal, PlainMessage, PlainOutbox}
use Rattle.journal.specs.Journal.{History}
use Rattle.journal.specs.Membership.{is_open, is_in_space, matches, place_of, rooms, sid_of, sockets}
use Rattle.journal.specs.ManySockets.{rising_by}
use Rattle.journal.specs.Sessions.{sessions}
use Rattle.journal.specs.Log.{log, next}
use Rattle.journal.specs.Outboxes.{waiting, answer}
use Rattle.journal.specs.Totals.{is_spent}
use Rattle.journal.specs.Refusals.{or_spent}
use Rattle.journal.specs.Casting.{Tells}
use Rattle.journal.specs.Dismissing.{Dismisses}

-- whether the client is open
abbrev pub opened : History → (client : ℕ) → Bool
opened h c = is_open h.base h.journal c

-- this of an open client, and nothing of another
abbrev pub when_open : {A : Type 0} → History → (client : ℕ) → A → Option A
when_open h c x = if is_open h.base h.journal c then Some x else None

-- what waits for the client
abbrev pub waits : History → (client : ℕ) → List Entry
waits h c = waiting h.base h.limits h.journal c

-- what waits for the client, and how many entries and bytes may
abbrev pub outbox_for : History → (client : ℕ) → PlainOutbox
outbox_for h c =
    record { waiting = waits h c; capacity = h.limits.capacity; bytes = h.limits.bytes }

-- the rooms of the sockets
abbrev pub rooms_now : History → RoomSets
rooms_now h = rooms h.base h.journal

-- the log
abbrev pub logs : History → List PlainLogged
logs h = log h.base h.limits h.journal

-- the log's offsets follow one another, up to that before the next
abbrev pub RunsOn : History → Type 0
RunsOn h = IsRun (number_of (next h.base h.journal)) (logs h)

-- the saved sessions
abbrev pub saves : History → List PlainSaved
saves h = sessions h.base h.limits h.journal

-- Spent, where the step can't be counted
abbrev pub spent_by : History → What → Option HubError
spent_by h what = or_spent None (is_spent h.base h.limits h.journal what)

-- an entry of a text alone
abbrev pub plain_entry : (text : List ℕ) → Entry
plain_entry text = record { text = text; attachments = [] }

-- the step that puts the entry for the client
abbrev pub told : (client : ℕ) → Entry → What
told c entry = Told (record { client = c; entry = entry })

-- the step that takes the first so many entries that wait for the client, or all where fewer wait
abbrev pub took : History → (client most : ℕ) → What
took h c most = Took c most (min most (length (waits h c)))

-- the socket with these ids that the client has in the namespace with this name
abbrev pub socket_for : History → (client : ℕ) → (name : List ℕ) → (sid pid : ℕ) → Socket
socket_for h c name sid pid =
    record { client = c; space = place_of h.limits name; sid = sid; pid = pid }

-- the answer to the client's CONNECT to the namespace at a place
abbrev pub answer_at : History → (client place sid pid : ℕ) → Entry
answer_at h c place sid pid =
    answer h.limits (record { client = c; space = place; sid = sid; pid = pid })

-- a broadcast to the namespace at a place, which these sockets missed
abbrev pub aimed :
    (space : ℕ) → (rooms excepted : List (List ℕ)) → (offset : Option ℕ) → Entry
    → (dropped : List ℕ) → PlainBroadcast
aimed space rooms excepted offset entry dropped =
    record {
      space = space;
      rooms = rooms;
      excepted = excepted;
      offset = offset;
      entry = entry;
      dropped = dropped;
    }

-- these are the messages of the broadcast that is made now
abbrev pub TellsNow : History → PlainBroadcast → List PlainMessage → Type 0
TellsNow h b messages = Tells h.base h.limits h.journal b messages

-- these are the sockets and the messages of the dismissal that is made now
abbrev pub DismissesNow : History → PlainDismissal → List Socket → List PlainMessage → Type 0
DismissesNow h d ks messages = Dismisses h.base h.limits h.journal d ks messages

-- these are the sockets of the namespace at a place that are in the room, rising
abbrev pub ListsMembers : History → (place : ℕ) → (room : List ℕ) → List ℕ → Type 0
ListsMembers h place room =
    ListsRising nat_cmp (λ s. is_in_space h.base h.journal place s && is_in (rooms_now h) s room)

-- the sockets of the namespace at a place that are in one of the rooms, or all where none is named, but for those in an
-- excepted one, rising
abbrev pub selected : History → (place : ℕ) → (named excepted : List (List ℕ)) → List ℕ
selected h place named excepted =
    rising_by sid_of (matches h.base h.journal place named excepted) (sockets h.base h.journal)

-- each connected session, where it was true to what it heard, has heard just what is due to it
abbrev pub AllHear : History → Type 0
AllHear h = (p : ℕ) → HearsWhatIsDue h.base h.limits h.journal p
