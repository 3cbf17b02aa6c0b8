-- Who was let in: which sockets were attached, by the CONNECT of which event, and who is there because of that.
use Rattle.std.specs.Prelude.{◌≡◌, ℕ, List, [], ◌∷◌, ◌++◌, Option, Some, Contains}
use Rattle.std.specs.List.{AllByRecursion}
use Rattle.eio_wire.specs.declared.packet.Packet.{Packet}
use Rattle.eio_wire.specs.declared.packet.Packet.TheVariants.{Message}
use Rattle.eio_wire.specs.Payload.{Payload}
use Rattle.sio_wire.specs.declared.header.Kind.TheVariants.{Connect}
use Rattle.sio_wire.specs.Header.{Sio}
use Rattle.connection.specs.Line.{PlainLine, HasHistory}
use Rattle.recovery.specs.SavedTable.{PlainSaved}
use Rattle.journal.specs.declared.socket.Socket.{Socket}
use Rattle.journal.specs.declared.step.Step.{Step}
use Rattle.journal.specs.declared.step.What.{What}
use Rattle.journal.specs.declared.step.What.TheVariants.{Attached}
use Rattle.journal.specs.Plain.{Limits}
use Rattle.journal.specs.Journal.{History}
use Rattle.journal.specs.Membership.{place_of, sockets}
use Rattle.journal.specs.Sessions.{sessions}
use Rattle.events.specs.declared.app.Effect.{Effect}
use Rattle.events.specs.declared.event.Event.{Event}
use Rattle.events.specs.declared.event.Event.TheVariants as event
use Rattle.events.specs.App.{Policy, Accepted}
use Rattle.dispatch.specs.Frames.{IsFrameOf}
use Rattle.dispatch.specs.Holding.{Holding}
use Rattle.epochs.specs.Epochs.{with_steps}

-- ---- what a client asked for

-- the text spells a CONNECT to this namespace with this payload
abbrev pub IsConnect : (space payload text : List ℕ) → Type 0
IsConnect space payload text = (id : Option ℕ) × Sio (record { kind = Connect; count = 0; space = space; id = id; payload = payload }) text

-- the packet is a message with such a text
abbrev pub IsConnectPacket : (space payload : List ℕ) → Packet → Type 0
IsConnectPacket space payload (Message text) = IsConnect space payload text
IsConnectPacket space payload _ = ⊥

-- the event brings a CONNECT of this client to this namespace, with this payload
abbrev pub Brings : Event → (client : ℕ) → (space payload : List ℕ) → Type 0
Brings (event.Post c body) client space payload = (client ≡ c) × (packets : List Packet) × Payload packets body
    × (packet : Packet) × Contains packets packet × IsConnectPacket space payload packet
Brings (event.Frame c frame) client space payload = (client ≡ c)
    × (packet : Packet) × IsFrameOf packet frame × IsConnectPacket space payload packet
Brings _ client space payload = ⊥

-- ---- who was let in

-- the event brings a CONNECT of the socket's client to its namespace, and the app lets in who has that payload at its moment
abbrev pub IsLetInBy : Policy → Limits → (Event × ℕ) → Socket → Type 0
IsLetInBy policy limits turn k = (space payload : List ℕ) × Brings turn.0 k.client space payload × (place_of limits space ≡ k.space)
    × (effects : List Effect) × policy.allows turn.1 space payload (Accepted effects)

-- one of these events does
abbrev pub IsLetIn : Policy → Limits → List (Event × ℕ) → Socket → Type 0
IsLetIn policy limits events k = (turn : Event × ℕ) × Contains events turn × IsLetInBy policy limits turn k

-- the sockets that a step attaches; one that comes back was attached before
abbrev pub attaches : What → List Socket
attaches (Attached k) = k ∷ []
attaches _ = []

-- the sockets that these steps attached
abbrev pub attached : List Step → List Socket
attached [] = []
attached (step ∷ before) = attaches step.what ++ attached before

-- the one history goes on to the other by steps that attached such sockets alone
pub record AttachesOnly (Is : Socket → Type 0) (before after : History) : Type 0 where
  pub steps : List Step
  pub goes : after ≡ with_steps steps before
  pub each : AllByRecursion Is (attached steps)

-- each line has a history, as all lines have
abbrev pub HaveHistories : Holding → Type 0
HaveHistories s = (c : ℕ) (line : PlainLine) → s.lines c ≡ Some line → HasHistory line

-- ---- who is there

-- this is so of the id and the namespace of each connected socket, and of each session that may come back
pub record Everyone (Is : (sid space : ℕ) → Type 0) (h : History) : Type 0 where
  pub connected : AllByRecursion (λ (k : Socket). Is k.sid k.space) (sockets h.base h.journal)
  pub saved : AllByRecursion (λ (s : PlainSaved). Is s.sid s.space) (sessions h.base h.limits h.journal)

-- these steps attached a socket with this id in this namespace, and one of these events let it in
abbrev pub WasLetIn : Policy → Limits → List (Event × ℕ) → List Step → (sid space : ℕ) → Type 0
WasLetIn policy limits events steps sid space = (k : Socket) × Contains (attached steps) k × (k.sid ≡ sid) × (k.space ≡ space)
    × IsLetIn policy limits events k
