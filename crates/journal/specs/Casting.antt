-- What a broadcast that is asked for makes of a hub, and the lists from which it is made.
use Rattle.std.specs.Prelude.{◌≡◌, ◌⊎◌, ℕ, ◌==◌, Bool, true, false, not, ◌&&◌, List, [], ◌∷◌, ◌++◌, map, length, nat_eq, is_some, Option, None, Some, Result, Ok, Err, if◌then◌else◌}
use Rattle.std.specs.List.{flat_map, list_any, IsDistinct, AllByRecursion}
use Rattle.std.specs.List.Sorted.{IsStrictlySortedBy}
use Rattle.std.specs.Ordering.{nat_cmp, eq_by_cmp}
use Rattle.std.specs.Option.{option_map_or}
use Rattle.terms.specs.declared.entry.Entry.{Entry}
use Rattle.journal.specs.declared.form.Form.{Form}
use Rattle.journal.specs.declared.socket.Socket.{Socket}
use Rattle.journal.specs.declared.step.Step.{Step}
use Rattle.journal.specs.declared.step.What.TheVariants.{Cast}
use Rattle.recovery.specs.PacketLog.{PlainLogged, LogContents, with_entry}
use Rattle.journal.specs.declared.error.HubError.{HubError}
use Rattle.journal.specs.declared.error.HubError.TheVariants.{Memory, Spent}
use Rattle.journal.specs.Plain.{Limits, PlainBase, PlainBroadcast, PlainCast, PlainCastDone, PlainClient, PlainMessage}
use Rattle.journal.specs.Journal.{History, with_step}
use Rattle.journal.specs.Membership.{place_of}
use Rattle.journal.specs.Log.{next}
use Rattle.journal.specs.Outboxes.{has_no_space, entries_for, put}
use Rattle.journal.specs.Broadcast.{RightCast, Spells, is_logged, reaches}
use Rattle.journal.specs.Totals.{is_spent}
use Rattle.journal.specs.Refusals.{cast_refusal}
use Rattle.journal.specs.Fields.{client_at}

-- ---- the lists

-- the socket, where there is one and it is in the namespace
abbrev pub in_space : ℕ → Option Socket → List Socket
in_space space None = []
in_space space (Some k) = if k.space == space then k ∷ [] else []

-- there is a socket, and it is in the namespace
abbrev pub is_here : ℕ → Option Socket → Bool
is_here space found = option_map_or (λ (k : Socket). k.space == space) found false

-- the list rises, and of the ids that are inside it has just those that pass the
-- test; it may have others
pub record ListsInside (inside test : ℕ → Bool) (ids : List ℕ) : Type 0 where
  pub rises : IsStrictlySortedBy nat_cmp ids
  pub exactly : (id : ℕ) → inside id ≡ true → list_any (eq_by_cmp nat_cmp id) ids ≡ test id

-- what is held of the client has no space for the entry
abbrev pub is_full_in : (ℕ → Option PlainClient) → Entry → ℕ → Bool
is_full_in find entry c =
    option_map_or
    (λ (known : PlainClient).
    has_no_space known.outbox.capacity known.outbox.bytes known.outbox.waiting entry)
    (find c)
    false

-- the message for a client that has space
abbrev pub message_for : (ℕ → Option PlainClient) → Entry → ℕ → List PlainMessage
message_for find entry c =
    if is_full_in find entry c then [] else record { client = c; entry = entry } ∷ []

-- one for each socket whose client has space
abbrev pub messages_for : (ℕ → Option PlainClient) → Entry → List Socket → List PlainMessage
messages_for find entry sockets = flat_map (λ (k : Socket). message_for find entry k.client) sockets

-- the socket, where its client has no space
abbrev pub missing_of : (ℕ → Option PlainClient) → Entry → Socket → List ℕ
missing_of find entry k = if is_full_in find entry k.client then k.sid ∷ [] else []

-- the sockets whose clients have no space
abbrev pub missing : (ℕ → Option PlainClient) → Entry → List Socket → List ℕ
missing find entry sockets = flat_map (missing_of find entry) sockets

-- the client that a message is for
abbrev pub receiver_of : PlainMessage → ℕ
receiver_of m = m.client

-- a socket's client
abbrev pub client_of : Socket → ℕ
client_of k = k.client

-- a message as a pair
abbrev pub pair_of : PlainMessage → ℕ × Entry
pair_of m = (m.client, m.entry)

-- a client with these entries more that wait for it
abbrev pub with_entries : List Entry → PlainClient → PlainClient
with_entries entries known =
    record known { outbox = record known.outbox { waiting = known.outbox.waiting ++ entries } }

-- ---- the step

-- the log with one broadcast more, where there is one
abbrev pub with_logged : LogContents → Option PlainLogged → LogContents
with_logged log None = log
with_logged log (Some e) = with_entry log e

-- these messages tell the broadcast: they put what it puts, no two of them are for one client, and
-- each client has space; and the broadcast drops just those that it should
pub record Tells (base : PlainBase) (limits : Limits) (before : List Step) (b : PlainBroadcast)
    (messages : List PlainMessage) : Type 0 where
  pub right : (at : ℕ) → RightCast base limits before (record { at = at; what = Cast b }) b
  pub apart : IsDistinct nat_eq (map receiver_of messages)
  pub places : AllByRecursion
      (λ (m : PlainMessage). is_full_in (client_at base limits before) m.entry m.client ≡ false)
      messages
  pub entries : (q : ℕ)
      → entries_for q (map pair_of messages) ≡ entries_for q (put base limits before (Cast b))
  pub number : length messages ≡ length (put base limits before (Cast b))
  pub receivers : (c : ℕ)
      → list_any (λ d. d == c) (map receiver_of messages) ≡ reaches base before b c

-- ---- the command

-- why the cast is refused
abbrev pub refusal_of : History → PlainCast → Option HubError
refusal_of h c = cast_refusal h.limits (place_of h.limits c.space) c.payload (length c.attachments)

-- the offset that a broadcast of this form gets: the next one, where it is logged
abbrev pub offset_of : History → Form → Option ℕ
offset_of h form = if is_logged form then next h.base h.journal else None

-- it is to be logged, and the log has no offset left
abbrev pub has_no_offset : History → Form → Bool
has_no_offset h form = is_logged form && not (is_some (next h.base h.journal))

-- the broadcast is what the cast asks for
pub record IsCastOf (h : History) (c : PlainCast) (b : PlainBroadcast) : Type 0 where
  pub space : b.space ≡ place_of h.limits c.space
  pub rooms : b.rooms ≡ c.rooms
  pub excepted : b.excepted ≡ c.excepted
  pub offset : b.offset ≡ offset_of h c.form
  pub text : Spells h.limits b c.form c.payload
  pub attachments : b.entry.attachments ≡ c.attachments

-- by the broadcast that the cast asks for a count would pass the greatest u64, or the offset would
abbrev pub IsSpentBy : History → PlainCast → Type 0
IsSpentBy h c =
    (has_no_offset h c.form ≡ true)
    ⊎ ((b : PlainBroadcast) × IsCastOf h c b
    × ((at : ℕ) → RightCast h.base h.limits h.journal (record { at = at; what = Cast b }) b)
    × (is_spent h.base h.limits h.journal (Cast b) ≡ true))

-- want of memory may come instead of a count that would pass the greatest u64
abbrev pub IsShortOf : History → PlainCast → HubError → Type 0
IsShortOf h c e = (e ≡ Memory) ⊎ ((e ≡ Spent) × IsSpentBy h c)

-- the cast was done: the journal has one step more, a broadcast that is what the cast asks for and
-- reaches whom it is for, by which no count passes the greatest u64; the answer has its offset, how
-- many entries it put, how many sockets miss it, and just the clients that got it
pub record IsCast (before after : History) (now : ℕ) (c : PlainCast) (done : PlainCastDone)
    : Type 0 where
  pub b : PlainBroadcast
  pub asked : IsCastOf before c b
  pub numbered : has_no_offset before c.form ≡ false
  pub right : (at : ℕ)
      → RightCast before.base before.limits before.journal (record { at = at; what = Cast b }) b
  pub unspent : is_spent before.base before.limits before.journal (Cast b) ≡ false
  pub step : after ≡ with_step before now (Cast b)
  pub offset : done.offset ≡ b.offset
  pub placed : done.placed ≡ length (put before.base before.limits before.journal (Cast b))
  pub dropped : done.dropped ≡ length b.dropped
  pub clients_once : IsDistinct nat_eq done.clients
  pub clients_are : (c : ℕ)
      → list_any (λ d. d == c) done.clients ≡ reaches before.base before.journal b c

-- the cast wasn't done: the error is its refusal, and where there is none want
-- of memory or of a count
abbrev pub IsCastError : History → PlainCast → Option HubError → HubError → Type 0
IsCastError h c (Some refusal) e = e ≡ refusal
IsCastError h c None e = IsShortOf h c e

-- the cast was answered: where it was accepted, nothing spoke against it, and it was
-- done; else nothing changed
abbrev pub CastDoes :
    (before after : History) → ℕ → PlainCast → Result PlainCastDone HubError → Type 0
CastDoes before after now c (Ok done) =
    (refusal_of before c ≡ None) × IsCast before after now c done
CastDoes before after now c (Err e) =
    IsCastError before c (refusal_of before c) e × (after ≡ before)
