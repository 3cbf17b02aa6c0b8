-- What a session that comes back brings with it, and what it gets (Socket.IO server documentation,
-- "Connection state recovery").
use Rattle.std.specs.Prelude.{ℕ, List, [], ◌++◌, map, filter, unwrap_or}
use Rattle.terms.specs.declared.entry.Entry.{Entry}
use Rattle.recovery.specs.PacketLog.{PlainLogged}
use Rattle.recovery.specs.SavedTable.{PlainSaved}
use Rattle.recovery.specs.Missed.{missed, is_for}
use Rattle.journal.specs.declared.step.Step.{Step}
use Rattle.journal.specs.Plain.{Limits, PlainBase, PlainRecovery, PlainClient}
use Rattle.journal.specs.Sessions.{sessions, session_with}
use Rattle.journal.specs.Log.{log}

-- a session comes back at a client with the ids and rooms that were saved, and has
-- missed these of the log
abbrev pub brought_back :
    (client space pid offset : ℕ) → List PlainLogged → PlainSaved → PlainRecovery
brought_back c space p offset entries s =
    record {
      socket = record { client = c; space = space; sid = s.sid; pid = p };
      offset = offset;
      rooms = s.rooms;
      missed = missed offset space s.rooms entries;
    }

-- instead of a session where none is saved
abbrev pub no_session : (space pid : ℕ) → PlainSaved
no_session space p = record { sid = 0; pid = p; space = space; rooms = []; lost_at = 0 }

-- the recovery of the saved session that has this private id
abbrev pub recovery_of :
    PlainBase → Limits → List Step → (client space pid offset : ℕ) → PlainRecovery
recovery_of base limits journal c space p offset =
    brought_back c space p offset (log base limits journal)
    (unwrap_or (session_with p (sessions base limits journal)) (no_session space p))

-- what a socket of the namespace, in these rooms, gets of these broadcasts
abbrev pub gets : (space : ℕ) → (rooms : List (List ℕ)) → List PlainLogged → List Entry
gets space rooms entries = map (λ (e : PlainLogged). e.entry) (filter (is_for space rooms) entries)

-- a client with these entries at the end of what waits for it
abbrev pub with_entries : List Entry → PlainClient → PlainClient
with_entries entries known =
    record known { outbox = record known.outbox { waiting = known.outbox.waiting ++ entries } }
