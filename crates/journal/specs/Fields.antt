-- How the fields of a hub stand to its history: its state is what its base and its journal say.
use Rattle.std.specs.Prelude.{◌≡◌, ℕ, ◌+◌, ◌<◌, ◌≤◌, Bool, List, [], ◌∷◌, ◌++◌, drop, take, length, ◌-◌, ◌==◌, not, filter, Option, None, Some, if◌then◌else◌}
use Rattle.room_maps.specs.Membership.{RoomSets}
use Rattle.recovery.specs.PacketLog.{LogContents}
use Rattle.recovery.specs.SavedTable.{TableContents}
use Rattle.terms.specs.declared.entry.Entry.{Entry}
use Rattle.journal.specs.declared.socket.Socket.{Socket}
use Rattle.journal.specs.declared.step.Step.{Step}
use Rattle.journal.specs.Plain.{Limits, PlainBase, PlainClient}
use Rattle.journal.specs.Journal.{moment}
use Rattle.journal.specs.Membership.{is_open, socket_with, sid_of, pid_of, is_connected, sockets_of, rooms}
use Rattle.journal.specs.Sessions.{sessions}
use Rattle.journal.specs.Log.{log, next}
use Rattle.journal.specs.Outboxes.{waiting}
use Rattle.journal.specs.Totals as totals
use Rattle.journal.specs.Totals.{handed_out}
use Rattle.journal.specs.declared.totals.Counts.{Counts}

-- what a hub holds of a client, where it is open
abbrev pub client_at : PlainBase → Limits → List Step → ℕ → Option PlainClient
client_at base limits journal c =
    if is_open base journal c
    then Some (record {
      sockets = sockets_of base journal c;
      outbox =
          record {
            waiting = waiting base limits journal c;
            capacity = limits.capacity;
            bytes = limits.bytes;
          };
    })
    else None

-- a client that has just been opened
abbrev pub new_client : Limits → PlainClient
new_client limits =
    record {
      sockets = [];
      outbox = record { waiting = []; capacity = limits.capacity; bytes = limits.bytes };
    }

-- a client without the first entries that wait for it
abbrev pub without_first : ℕ → PlainClient → PlainClient
without_first n known =
    record known { outbox = record known.outbox { waiting = drop n known.outbox.waiting } }

-- a client with one entry more that waits for it
abbrev pub with_entry : Entry → PlainClient → PlainClient
with_entry entry known =
    record known { outbox = record known.outbox { waiting = known.outbox.waiting ++ entry ∷ [] } }

-- a client with one socket more and the answer to its CONNECT
abbrev pub with_socket : Socket → Entry → PlainClient → PlainClient
with_socket socket entry known =
    record {
      sockets = known.sockets ++ socket ∷ [];
      outbox = record known.outbox { waiting = known.outbox.waiting ++ entry ∷ [] };
    }

-- a client with one socket more
abbrev pub plus_socket : Socket → PlainClient → PlainClient
plus_socket socket known = record known { sockets = known.sockets ++ socket ∷ [] }

-- a client without its newest socket
abbrev pub without_last : PlainClient → PlainClient
without_last known = record known { sockets = take (length known.sockets - 1) known.sockets }

-- the maps, the saved sessions, the log and the last moment are what the history says
pub record Fields (base : PlainBase) (limits : Limits)
    (find : ℕ → Option PlainClient) (seat : ℕ → Option Socket) (is_pid : ℕ → Bool)
    (sets : RoomSets) (table : TableContents) (packets : LogContents) (newest : ℕ)
    (journal : List Step) : Type 0 where
  pub clients : (c : ℕ) → find c ≡ client_at base limits journal c
  pub seats : (s : ℕ) → seat s ≡ socket_with sid_of base journal s
  pub pids : (p : ℕ) → is_pid p ≡ is_connected pid_of base journal p
  pub rooms_are : sets ≡ rooms base journal
  pub saved_is : table ≡ record { limit = limits.saved; sessions = sessions base limits journal }
  pub log_is : packets
      ≡ record {
        limit = limits.log;
        bytes = limits.log_bytes;
        next = next base journal;
        last = packets.last;
        entries = log base limits journal;
      }
  pub log_last : packets.last ≤ newest
  pub last : newest ≡ moment base journal

-- the counts are what the history counts
pub record Counted (base : PlainBase) (limits : Limits) (counts : Counts) (journal : List Step)
    : Type 0 where
  pub commands : counts.commands ≡ totals.commands base journal
  pub placed : counts.placed ≡ totals.placed base limits journal
  pub dropped : counts.dropped ≡ totals.dropped base journal
  pub taken : counts.taken ≡ handed_out base journal
  pub discarded : counts.discarded ≡ totals.discarded base limits journal

-- by this much no count passes the greatest u64
abbrev pub CanCount : Counts → (puts drops takes discards : ℕ) → Type 0
CanCount counts puts drops takes discards =
    (counts.commands < 18446744073709551615)
    × (counts.placed + puts ≤ 18446744073709551615)
    × (counts.dropped + drops ≤ 18446744073709551615)
    × (counts.taken + takes ≤ 18446744073709551615)
    × (counts.discarded + discards ≤ 18446744073709551615)

-- a client without the socket in the namespace at this place
abbrev pub without_place : ℕ → PlainClient → PlainClient
without_place p known =
    record known { sockets = filter (λ (k : Socket). not (k.space == p)) known.sockets }

-- what is held of a client's sockets, and what waits for it, if anything is held of it
abbrev pub held_sockets : Option PlainClient → List Socket
held_sockets None = []
held_sockets (Some known) = known.sockets

abbrev pub held_entries : Option PlainClient → List Entry
held_entries None = []
held_entries (Some known) = known.outbox.waiting
