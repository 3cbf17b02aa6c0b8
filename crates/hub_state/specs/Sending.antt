-- A broadcast that is sent, and what is answered of it.
use Rattle.std.specs.Prelude.{◌≡◌, ℕ, true, List, length, map, None, Result, Ok, Err}
use Rattle.journal.specs.declared.error.HubError.{HubError}
use Rattle.journal.specs.declared.socket.Socket.{Socket}
use Rattle.journal.specs.declared.step.What.TheVariants.{Cast}
use Rattle.journal.specs.Plain.{PlainBroadcast, PlainMessage, PlainCastDone}
use Rattle.journal.specs.Journal.{History, with_step}
use Rattle.journal.specs.Fields.{client_at}
use Rattle.journal.specs.Casting.{messages_for, missing, receiver_of}
use Rattle.journal.specs.Command.{IsErrorOf}
use Rattle.hub_state.specs.Words.{TellsNow, spent_by}

-- the broadcast as it is sent to these sockets: those whose clients have no space miss it
abbrev pub sent_to : History → List Socket → PlainBroadcast → PlainBroadcast
sent_to h sockets b = record b { dropped = missing (client_at h.base h.limits h.journal) b.entry sockets }

-- and its messages, for the others
abbrev pub messages_to : History → List Socket → PlainBroadcast → List PlainMessage
messages_to h sockets b = messages_for (client_at h.base h.limits h.journal) b.entry sockets

-- sent to these sockets it reaches just those whom it is for
abbrev pub TellsTo : History → List Socket → PlainBroadcast → Type 0
TellsTo h sockets b = TellsNow h (sent_to h sockets b) (messages_to h sockets b)

-- what comes of a broadcast with these messages
abbrev pub done_of : PlainBroadcast → List PlainMessage → PlainCastDone
done_of b messages =
    record { offset = b.offset; placed = length messages; dropped = length b.dropped; clients = map receiver_of messages }

-- the broadcast was sent, by which no count passes the greatest u64, and its step was made; or nothing changed, since
-- a count would, or for want of memory
abbrev pub Sends : {X : Type 0} → (before after : History) → ℕ → PlainBroadcast → Result X HubError → Type 0
Sends before after now b (Ok x) = (spent_by before (Cast b) ≡ None) × (after ≡ with_step before now (Cast b))
Sends before after now b (Err e) = IsErrorOf true (spent_by before (Cast b)) e × (after ≡ before)
