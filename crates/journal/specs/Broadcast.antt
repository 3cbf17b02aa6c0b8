-- What a broadcast is as a packet, and that every addressee gets it once, or is counted as dropped
-- (Socket.IO server documentation, "Rooms" and "Adapter").
use Rattle.std.specs.Prelude.{◌≡◌, ℕ, ◌<◌, ◌^◌, ◌==◌, Bool, true, false, ◌&&◌, List, [], ◌∷◌, ◌++◌, nat_eq, get_or, length, is_some, Option, None, Some, IfSome, if◌then◌else◌}
use Rattle.std.specs.List.{list_any, IsDistinct}
use Rattle.journal.specs.declared.step.Step.{Step}
use Rattle.journal.specs.declared.form.Form.{Form}
use Rattle.journal.specs.declared.form.Form.TheVariants.{Event, Question, Answer}
use Rattle.sio_wire.specs.declared.header.Header.{Header}
use Rattle.sio_wire.specs.declared.header.Kind.{Kind}
use Rattle.sio_wire.specs.declared.header.Kind.TheVariants as kind
use Rattle.sio_wire.specs.Header.{Plain}
use Rattle.sio_wire.specs.Offset.{payload_with_offset}
use Rattle.std.specs.Option.{option_map_or}
use Rattle.journal.specs.Plain.{Limits, PlainBase, PlainBroadcast}
use Rattle.journal.specs.Membership.{sockets}
use Rattle.journal.specs.Outboxes.{is_addressed, is_full, receivers, placements}
use Rattle.journal.specs.Refusals.{cast_refusal}

-- only an event is logged, and only one of which that is said
abbrev pub is_logged : Form → Bool
is_logged (Event logged) = logged
is_logged (Question id) = false
is_logged (Answer id) = false

-- the id under which a question asks for an acknowledgement, and an answer gives one; any other
-- event has none (Socket.IO protocol 5, "Acknowledgement")
abbrev pub id_of : Form → Option ℕ
id_of (Event logged) = None
id_of (Question id) = Some id
id_of (Answer id) = Some id

-- events and questions are events, and answers are acknowledgements, binary ones where they have
-- attachments (Socket.IO protocol 5, "Packet types")
abbrev pub kind_of : Form → (attachments : ℕ) → Kind
kind_of (Event logged) attachments = if attachments == 0 then kind.Event else kind.BinaryEvent
kind_of (Question id) attachments = if attachments == 0 then kind.Event else kind.BinaryEvent
kind_of (Answer id) attachments = if attachments == 0 then kind.Ack else kind.BinaryAck

-- the header of a broadcast, whose payload has the offset as its last element where it has one
-- (Socket.IO protocol 5, "Sending and receiving data" and "Acknowledgement")
abbrev pub broadcast_header : Form → (space payload : List ℕ) (attachments : ℕ)
    (offset : Option ℕ) → Header
broadcast_header form space payload attachments offset =
    record {
      kind = kind_of form attachments;
      space = space;
      id = id_of form;
      payload = option_map_or (payload_with_offset payload) offset payload;
      count = attachments;
    }

-- what is sent is the plain text of this form with this payload; its id is a u64
pub record Spells (limits : Limits) (b : PlainBroadcast) (form : Form) (payload : List ℕ)
    : Type 0 where
  pub fits : IfSome (id_of form) (λ id. id < 2 ^ 64)
  pub text : Plain
      (broadcast_header
      form (get_or limits.spaces b.space []) payload (length b.entry.attachments) b.offset)
      b.entry.text

-- the broadcast is of a form, with a payload that isn't refused, and has an offset just where that
-- is a logged event
pub record IsOfAForm (limits : Limits) (b : PlainBroadcast) : Type 0 where
  pub form : Form
  pub payload : List ℕ
  pub refusal : cast_refusal limits b.space payload (length b.entry.attachments) ≡ None
  pub text : Spells limits b form payload
  pub logged : is_some b.offset ≡ is_logged form

-- the socket with this session id is addressed, and its client's outbox has no space
abbrev pub is_dropped : PlainBase → Limits → List Step → PlainBroadcast → ℕ → Bool
is_dropped base limits before b s =
    list_any
    (λ k. k.sid == s
    && (is_addressed base before b k && is_full base limits before k.client b.entry))
    (sockets base before)

-- the broadcast reaches a socket of the client
abbrev pub reaches : PlainBase → List Step → PlainBroadcast → ℕ → Bool
reaches base before b c = list_any (λ k. k.client == c) (receivers base before b)

-- the dropped sockets are just those addressed ones whose clients have no space for it, each
-- once; each client of another addressed socket gets the entry once, after all that it got; no
-- other client gets anything
pub record RightCast (base : PlainBase) (limits : Limits) (before : List Step) (step : Step)
    (b : PlainBroadcast) : Type 0 where
  pub drops : (s : ℕ) → list_any (λ d. d == s) b.dropped ≡ is_dropped base limits before b s
  pub each_once : IsDistinct nat_eq b.dropped
  pub places : (c : ℕ) → reaches base before b c ≡ true
      → placements base limits (step ∷ before) c ≡ placements base limits before c ++ b.entry ∷ []
  pub others : (c : ℕ) → reaches base before b c ≡ false
      → placements base limits (step ∷ before) c ≡ placements base limits before c
