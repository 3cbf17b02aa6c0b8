-- A saved session that was found, and what it brings with it (Socket.IO server documentation, "Connection state
-- recovery").
use Rattle.std.specs.Prelude.{ℕ, List, ◌++◌, Option}
use Rattle.terms.specs.declared.entry.Entry.{Entry}
use Rattle.recovery.specs.SavedTable.{PlainSaved}
use Rattle.journal.specs.declared.error.HubError.{HubError}
use Rattle.journal.specs.declared.socket.Socket.{Socket}
use Rattle.journal.specs.declared.step.What.TheVariants.{Recovered}
use Rattle.journal.specs.Plain.{PlainRecovery}
use Rattle.journal.specs.Journal.{History}
use Rattle.journal.specs.Membership.{place_of}
use Rattle.journal.specs.Sessions.{sessions, session_with}
use Rattle.journal.specs.Log.{log}
use Rattle.journal.specs.Totals.{is_spent}
use Rattle.journal.specs.Recovery.{gets, recovery_of}
use Rattle.journal.specs.Refusals.{or_spent, session_refusal, recovered_entries, recover_refusal}
use Rattle.hub_state.specs.declared.state.recover.FoundSession.{FoundSession}

-- the socket of a session that comes back at a client
abbrev pub socket_again : (client : ℕ) → PlainSaved → Socket
socket_again c s = record { client = c; space = s.space; sid = s.sid; pid = s.pid }

-- what the session gets of the broadcasts past the offset
abbrev pub gets_back : FoundSession → List Entry
gets_back found = gets found.session.now.space found.session.now.rooms (found.front.now ++ found.back.now)

-- what a session that comes back past an offset is told: the answer to its CONNECT, and what it has missed
abbrev pub puts_again : History → (client : ℕ) → PlainSaved → (offset : ℕ) → List Entry
puts_again h c s offset = recovered_entries h.base h.limits h.journal (socket_again c s) offset s.rooms

-- the recovery that a client asks for in a namespace
abbrev pub recovery_asked : (client : ℕ) → (space : List ℕ) → (pid offset : ℕ) → History → PlainRecovery
recovery_asked c space pid offset h = recovery_of h.base h.limits h.journal c (place_of h.limits space) pid offset

-- why the session with a private id can't come back in the namespace at a place
abbrev pub session_refusal_at : History → (pid place offset at : ℕ) → Option HubError
session_refusal_at h pid place offset at =
    session_refusal h.limits (log h.base h.limits h.journal) (session_with pid (sessions h.base h.limits h.journal)) place offset at

-- why it can't come back at a client
abbrev pub recover_refusal_of : History → (client place pid offset at : ℕ) → Option HubError
recover_refusal_of h c place pid offset at =
    or_spent (recover_refusal h.base h.limits h.journal c place pid offset at)
    (is_spent h.base h.limits h.journal (Recovered (recovery_of h.base h.limits h.journal c place pid offset)))
