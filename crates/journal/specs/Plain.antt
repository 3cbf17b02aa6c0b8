-- The data of configuration, steps and base as plain values, in which two are equal
-- where their contents are.
use Rattle.std.specs.Prelude.{ℕ, List, Option}
use Rattle.terms.specs.declared.entry.Entry.{Entry}
use Rattle.recovery.specs.PacketLog.{PlainLogged}
use Rattle.recovery.specs.SavedTable.{PlainSaved}
use Rattle.journal.specs.declared.form.Form.{Form}
use Rattle.journal.specs.declared.socket.Socket.{Socket}
use Rattle.journal.specs.declared.totals.Totals.{Totals}

-- what a hub was made with: how many clients, entries and bytes waiting for each, log entries
-- and saved sessions it may hold; how long it keeps these two, in milliseconds; the first
-- offset; the namespaces
pub record Limits : Type 0 where
  pub clients : ℕ
  pub capacity : ℕ
  pub bytes : ℕ
  pub log : ℕ
  pub log_bytes : ℕ
  pub saved : ℕ
  pub keep : ℕ
  pub first_offset : ℕ
  pub spaces : List (List ℕ)

-- a broadcast that was accepted: the place of its namespace, its rooms and excepted rooms, the
-- offset where it was logged, what is sent, and the sockets whose clients had no space for it
pub record PlainBroadcast : Type 0 where
  pub space : ℕ
  pub rooms : List (List ℕ)
  pub excepted : List (List ℕ)
  pub offset : Option ℕ
  pub entry : Entry
  pub dropped : List ℕ

-- a room that many sockets of a namespace joined or left: the place of the namespace, the rooms and
-- excepted rooms that the sockets match, the room, and the sockets for which that changed something
pub record PlainRoomChange : Type 0 where
  pub space : ℕ
  pub rooms : List (List ℕ)
  pub excepted : List (List ℕ)
  pub room : List ℕ
  pub changed : List ℕ

-- many sockets of a namespace that were ended: the place of the namespace, the rooms and excepted
-- rooms that they match, the sockets, and the clients that were told
pub record PlainDismissal : Type 0 where
  pub space : ℕ
  pub rooms : List (List ℕ)
  pub excepted : List (List ℕ)
  pub ended : List ℕ
  pub told : List ℕ

-- a broadcast that is asked for: the name of its namespace, its rooms and excepted rooms, its form,
-- its payload as a JSON array and its attachments
pub record PlainCast : Type 0 where
  pub space : List ℕ
  pub rooms : List (List ℕ)
  pub excepted : List (List ℕ)
  pub form : Form
  pub payload : List ℕ
  pub attachments : List (List ℕ)

-- what came of a broadcast: its offset where it was logged, how many outboxes it was put into, how
-- many sockets miss it, and the clients that got it
pub record PlainCastDone : Type 0 where
  pub offset : Option ℕ
  pub placed : ℕ
  pub dropped : ℕ
  pub clients : List ℕ

-- a session that came back: its socket, the offset that was named, its rooms, and the
-- offsets of what it missed
pub record PlainRecovery : Type 0 where
  pub socket : Socket
  pub offset : ℕ
  pub rooms : List (List ℕ)
  pub missed : List ℕ

-- an entry for one client
pub record PlainMessage : Type 0 where
  pub client : ℕ
  pub entry : Entry

-- a client of a base, with the namespace, the id and the private id of each of its
-- sockets, and what waits for it
pub record PlainBaseClient : Type 0 where
  pub client : ℕ
  pub sockets : List (ℕ × ℕ × ℕ)
  pub waiting : List Entry

-- the state from which a journal begins
pub record PlainBase : Type 0 where
  pub at : ℕ
  pub next : Option ℕ
  pub clients : List PlainBaseClient
  pub pairs : List (ℕ × List ℕ)
  pub log : List PlainLogged
  pub saved : List PlainSaved
  pub totals : Totals

-- what waits for a client, and how many entries and bytes may
pub record PlainOutbox : Type 0 where
  pub waiting : List Entry
  pub capacity : ℕ
  pub bytes : ℕ

-- what a hub holds of a client: its sockets and its outbox
pub record PlainClient : Type 0 where
  pub sockets : List Socket
  pub outbox : PlainOutbox
