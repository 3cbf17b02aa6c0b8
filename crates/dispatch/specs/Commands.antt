-- How an event uses the commands of the hub, and which of their refusals end it.
use Rattle.std.specs.Prelude.{◌≡◌, ◌⊎◌, ℕ, ◌==◌, ◌&&◌, Bool, true, false, List, Option, None, Some, Result, Ok, Err}
use Rattle.std.specs.List.{list_any}
use Rattle.journal.specs.declared.error.HubError.{HubError}
use Rattle.journal.specs.declared.error.HubError.TheVariants as hub
use Rattle.journal.specs.declared.error.RecoveryRefusal.{RecoveryRefusal}
use Rattle.journal.specs.declared.socket.Socket.{Socket}
use Rattle.journal.specs.declared.step.What.{What}
use Rattle.journal.specs.declared.step.What.TheVariants as what
use Rattle.journal.specs.Plain.{PlainRecovery}
use Rattle.journal.specs.Journal.{History, moment_at, with_step}
use Rattle.journal.specs.Command.{refusal}
use Rattle.journal.specs.Membership.{place_of, is_space, is_open, sockets, socket_of, is_connected, sid_of}
use Rattle.events.specs.declared.app.Who.{Who}
use Rattle.events.specs.declared.fault.CoreFault.{CoreFault}
use Rattle.events.specs.Fault.{IsFault, fault_of}
use Rattle.events.specs.declared.fault.CoreFault.TheVariants.{Memory}

-- the command that makes this step is accepted, and the journal is one step longer
abbrev pub Makes : History → ℕ → What → History → Type 0
Makes h now what g = (refusal h (moment_at h now) what ≡ None) × (g ≡ with_step h now what)

-- the command that makes this step is refused for this reason
abbrev pub IsRefused : History → ℕ → What → HubError → Type 0
IsRefused h now what e = refusal h (moment_at h now) what ≡ Some e

-- an answer to a change of rooms: the rooms don't allow it, which ends no event, or it ends the event
abbrev pub IsRoomChange : HubError → Type 0
IsRoomChange (hub.RoomRefused e) = Unit {0}
IsRoomChange e = IsFault e

-- the command that makes this step isn't done: for want of memory, or it is refused for a reason that ends the event
abbrev pub StopsAt : History → ℕ → What → CoreFault → Type 0
StopsAt h now what fault = (fault ≡ Memory) ⊎ ((e : HubError) × IsRefused h now what e × IsFault e × (fault ≡ fault_of e))

-- the command that makes this step is done, or it ends the event and nothing has changed
abbrev pub DoesOrStops : {X : Type 0} → History → ℕ → What → Result X CoreFault → History → Type 0
DoesOrStops h now what (Ok x) g = Makes h now what g
DoesOrStops h now what (Err fault) g = StopsAt h now what fault × (g ≡ h)

-- it is done, or refused for this reason, which ends no event, or ends the event; then nothing has changed
abbrev pub DoesOr : HubError → History → ℕ → What → Result Bool CoreFault → History → Type 0
DoesOr e h now what (Ok true) g = Makes h now what g
DoesOr e h now what (Ok false) g = IsRefused h now what e × (g ≡ h)
DoesOr e h now what (Err fault) g = StopsAt h now what fault × (g ≡ h)

-- the connected socket with this id is one of this client's
abbrev pub is_of : History → (c s : ℕ) → Bool
is_of h c s = list_any (λ (k : Socket). k.sid == s && k.client == c) (sockets h.base h.journal)

-- the socket is connected and this client's, which is open, and its namespace is one of the hub's
pub record IsSeated (who : Who) (h : History) : Type 0 where
  pub open_client : is_open h.base h.journal who.client ≡ true
  pub connected : is_connected sid_of h.base h.journal who.sid ≡ true
  pub own : is_of h who.client who.sid ≡ true
  pub in_space : is_space h.limits (place_of h.limits who.space) ≡ true

-- the client is open, and has joined no socket in this namespace, which is one of the hub's
pub record MayJoin (c : ℕ) (space : List ℕ) (h : History) : Type 0 where
  pub open_client : is_open h.base h.journal c ≡ true
  pub in_space : is_space h.limits (place_of h.limits space) ≡ true
  pub free : socket_of h.base h.journal c (place_of h.limits space) ≡ None

-- the socket at the place of its namespace
abbrev pub seat : Who → (pid : ℕ) → History → Socket
seat who pid h = record { client = who.client; space = place_of h.limits who.space; sid = who.sid; pid = pid }

-- the session can't come back, or what it missed has no space in the client's outbox
abbrev pub CannotRecover : History → ℕ → What → Type 0
CannotRecover h now what = ((why : RecoveryRefusal) × IsRefused h now what (hub.NotRecoverable why)) ⊎ IsRefused h now what hub.OutboxFull

-- the session comes back as its socket, or can't, or the event ends; then nothing has changed
abbrev pub Recovers : PlainRecovery → History → ℕ → Result (Option ℕ) CoreFault → History → Type 0
Recovers back h now (Ok (Some sid)) g = Makes h now (what.Recovered back) g × (sid ≡ back.socket.sid)
Recovers back h now (Ok None) g = CannotRecover h now (what.Recovered back) × (g ≡ h)
Recovers back h now (Err fault) g = StopsAt h now (what.Recovered back) fault × (g ≡ h)
