-- What a take carries to a client (Engine.IO protocol 4, "HTTP long-polling" and "Heartbeat").
use Rattle.std.specs.Prelude.{◌≡◌, ◌≢◌, ◌⊎◌, ℕ, Bool, true, false, List, [], ◌∷◌, ◌++◌, map, length, take, min, ◌<◌, ◌≤◌, Result, Ok, Err, if◌then◌else◌}
use Rattle.std.specs.List.{flat_map}
use Rattle.eio_wire.specs.declared.packet.Packet.{Packet}
use Rattle.eio_wire.specs.declared.packet.Packet.TheVariants.{Ping, Message, Binary, Noop}
use Rattle.eio_wire.specs.Payload.{Payload}
use Rattle.connection.specs.declared.clock.Transport.{Transport}
use Rattle.connection.specs.declared.clock.Transport.TheVariants.{Probing, Socket}
use Rattle.connection.specs.Upgrade.{transport}
use Rattle.terms.specs.declared.entry.Entry.{Entry}
use Rattle.connection.specs.History.{Call, GetEnded, PingCarried, clock_calls, is_getting, is_ping_due}
use Rattle.connection.specs.Line.{PlainLine, ForEachHistory, Advances}
use Rattle.journal.specs.declared.step.What.TheVariants.{Took}
use Rattle.journal.specs.Journal.{History}
use Rattle.journal.specs.Outboxes.{total_size, waiting}
use Rattle.events.specs.declared.fault.CoreFault.{CoreFault}
use Rattle.events.specs.declared.fault.CoreFault.TheVariants.{Memory, WrongTransport}
use Rattle.dispatch.specs.Commands.{Makes, StopsAt}
use Rattle.events.specs.declared.outcome.Outcome.{Outcome}
use Rattle.events.specs.declared.outcome.Outcome.TheVariants as outcome

-- ---- what is read from a line

-- whichever calls led to the line: the client speaks over this transport, a GET waits or not, a ping is due or not
abbrev pub IsOn : Transport → PlainLine → Type 0
IsOn on line = ForEachHistory line (λ o h. on ≡ transport o (clock_calls h))

-- the client polls, whether it probes a WebSocket or not
abbrev pub Polls : PlainLine → Type 0
Polls line = ForEachHistory line (λ o h. transport o (clock_calls h) ≢ Socket)

abbrev pub IsGetting : Bool → PlainLine → Type 0
IsGetting getting line = ForEachHistory line (λ o h. getting ≡ is_getting h)

abbrev pub IsPingDue : Bool → PlainLine → Type 0
IsPingDue ping line = ForEachHistory line (λ o h. ping ≡ is_ping_due h)

-- ---- the entries

-- a take of some entries hands out no more bytes than these, but for a single entry that has more (own)
abbrev pub most_taken : ℕ
most_taken = 262144

-- a take of at most `most` of these entries hands out so many: the longest front that fits, and one at least where there is one
pub record IsFitting (most : ℕ) (entries : List Entry) (n : ℕ) : Type 0 where
  pub within : n ≤ min most (length entries)
  pub some : 0 < min most (length entries) → 0 < n
  pub fits : 1 < n → total_size (take n entries) ≤ most_taken
  pub longest : (k : ℕ) → n < k → k ≤ min most (length entries) → most_taken < total_size (take k entries)

-- as many of those that wait for the client as a take of at most so many hands out
abbrev pub IsTaken : History → (c most n : ℕ) → Type 0
IsTaken h c most n = IsFitting most (waiting h.base h.limits h.journal c) n

-- ---- the packets

-- an entry: its text as a message, and then its attachments
abbrev pub packets_of : Entry → List Packet
packets_of entry = Message entry.text ∷ map Binary entry.attachments

-- the first so many entries that wait
abbrev pub handed : History → (c n : ℕ) → List Entry
handed h c n = take n (waiting h.base h.limits h.journal c)

-- a ping where one is due, and then the entries
abbrev pub carried : (ping : Bool) → List Entry → List Packet
carried ping entries = (if ping then Ping [] ∷ [] else []) ++ flat_map packets_of entries

-- ---- the take

-- how a take is answered
abbrev pub Take : Type 0
Take = Result Outcome CoreFault

-- the hub counts the entries that are handed out; where there are none it isn't asked
abbrev pub Counts : (c n : ℕ) → ℕ → History → History → Type 0
Counts c n now h g = elim (handed h c n) [
  | [] ↦ g ≡ h
  | entry ∷ entries ↦ Makes h now (Took c n (length (entry ∷ entries))) g
]

-- the entries aren't counted
abbrev pub FailsToCount : (c n : ℕ) → ℕ → History → CoreFault → Type 0
FailsToCount c n now h fault = (fault ≡ Memory)
    ⊎ ((0 < length (handed h c n)) × StopsAt h now (Took c n (length (handed h c n))) fault)

-- nothing was taken
abbrev pub TakesNone : CoreFault → CoreFault → (h g : History) → (old new : PlainLine) → Type 0
TakesNone fault e h g old new = (e ≡ fault) × (g ≡ h) × (new ≡ old)

-- there is no memory for the packets
abbrev pub IsShort : Take → (h g : History) → (old new : PlainLine) → Type 0
IsShort (Ok outcome) h g old new = ⊥
IsShort (Err e) h g old new = TakesNone Memory e h g old new

-- a GET is told that there is nothing to wait for, by the noop packet
abbrev pub TellsNoop : Take → (h g : History) → (old new : PlainLine) → Type 0
TellsNoop (Ok (outcome.Payload text)) h g old new = Payload (Noop [] ∷ []) text × (g ≡ h) × Advances old (GetEnded ∷ []) new
TellsNoop (Ok _) h g old new = ⊥
TellsNoop (Err e) h g old new = TakesNone Memory e h g old new

-- what a take does to the line: a ping that was due is carried
abbrev pub ping_calls : (ping : Bool) → List Call
ping_calls ping = if ping then PingCarried ∷ [] else []

-- the payload is written, then the entries are taken, and the GET is answered
abbrev pub Carries : (c n : ℕ) → ℕ → (ping : Bool) → Take → (h g : History) → (old new : PlainLine) → Type 0
Carries c n now ping (Ok (outcome.Payload text)) h g old new =
    Payload (carried ping (handed h c n)) text × Counts c n now h g × Advances old (GetEnded ∷ ping_calls ping) new
Carries c n now ping (Ok _) h g old new = ⊥
Carries c n now ping (Err e) h g old new = (fault : CoreFault) × FailsToCount c n now h fault × TakesNone fault e h g old new

-- where there is nothing to carry, a GET of a client that probes is told so, and another one waits on
abbrev pub FindsNothing : Transport → Take → (h g : History) → (old new : PlainLine) → Type 0
FindsNothing Probing answer h g old new = TellsNoop answer h g old new
FindsNothing _ answer h g old new = (answer ≡ Ok outcome.Nothing) × (g ≡ h) × (new ≡ old)

-- the first so many entries are taken
abbrev pub TakesFirst : Transport → (ping : Bool) → (c n : ℕ) → ℕ → Take → (h g : History) → (old new : PlainLine) → Type 0
TakesFirst on ping c n now answer h g old new = IsShort answer h g old new ⊎ elim (carried ping (handed h c n)) [
  | [] ↦ FindsNothing on answer h g old new
  | packet ∷ packets ↦ Carries c n now ping answer h g old new
]

-- as many as a take hands out
abbrev pub TakesWaiting : Transport → (ping : Bool) → (c most : ℕ) → ℕ → Take → (h g : History) → (old new : PlainLine) → Type 0
TakesWaiting on ping c most now answer h g old new = (n : ℕ) × IsTaken h c most n × TakesFirst on ping c n now answer h g old new

-- a client that doesn't poll any more has no payload to take, but a GET of it that still waits is answered
abbrev pub TakesOn : Transport → (getting ping : Bool) → (c most : ℕ) → ℕ → Take → (h g : History) → (old new : PlainLine) → Type 0
TakesOn Socket true ping c most now answer h g old new = TellsNoop answer h g old new
TakesOn Socket false ping c most now answer h g old new = (answer ≡ Err WrongTransport) × (g ≡ h) × (new ≡ old)
TakesOn on getting ping c most now answer h g old new = TakesWaiting on ping c most now answer h g old new

abbrev pub TakesFor : (c most : ℕ) → ℕ → Take → (h g : History) → (old new : PlainLine) → Type 0
TakesFor c most now answer h g old new =
    (on : Transport) × (getting : Bool) × (ping : Bool) × IsOn on old × IsGetting getting old × IsPingDue ping old
    × TakesOn on getting ping c most now answer h g old new
