-- What the demonstration app does with each event.
use Rattle.std.specs.Prelude.{◌≡◌, ◌≢◌, ℕ, Bool, true, false, if◌then◌else◌, List, [], ◌∷◌, ◌++◌, length, codes, bytes_eq, nat_lt, is_some, Option, Some, None, Result, Ok, Err, slice_get}
use Rattle.sio_wire.specs.declared.error.SioError.{SioError}
use Rattle.sio_wire.specs.JsonFields.{names_at}
use Rattle.terms.specs.Room.{own_room}
use Rattle.journal.specs.declared.form.Form.TheVariants as form
use Rattle.events.specs.App.{PlainVerdict, Accepted, Refused}
use Rattle.events.specs.Selection.{PlainSelection}
use Rattle.events.specs.declared.app.Who.{Who}
use Rattle.events.specs.declared.app.Message.{Message}
use Rattle.events.specs.declared.app.Arrived.{Arrived}
use Rattle.events.specs.declared.app.Arrived.TheVariants.{Event}
use Rattle.events.specs.declared.app.Effect.{Effect}
use Rattle.events.specs.declared.app.Effect.TheVariants as effect
use Rattle.relay.specs.declared.relay_app.Word.{Word}
use Rattle.relay.specs.declared.relay_app.Word.TheVariants as word

-- ---- CONNECT

abbrev pub NO_TOKEN : List ℕ
NO_TOKEN = codes "{\"token\":\"no\"}"

-- one payload is refused, and every other is accepted with no effects
abbrev pub Allows : (payload : List ℕ) → PlainVerdict → Type 0
Allows payload (Accepted effects) = (payload ≢ NO_TOKEN) × (effects ≡ [])
Allows payload (Refused message) = (payload ≡ NO_TOKEN) × (message ≡ codes "Not allowed")

-- ---- the texts of an event

abbrev pub texts_or_none : Result (List (Option (List ℕ))) SioError → List (Option (List ℕ))
texts_or_none (Ok texts) = texts
texts_or_none (Err fault) = []

-- the texts among the elements of an event
abbrev pub texts_of : (payload : List ℕ) → List (Option (List ℕ))
texts_of payload = texts_or_none (names_at payload)

-- what the name of an event asks for
abbrev pub word_of : List ℕ → Word
word_of name =
    if bytes_eq name (codes "join") then word.Join
    else if bytes_eq name (codes "leave") then word.Leave
    else if bytes_eq name (codes "say") then word.Say
    else if bytes_eq name (codes "two") then word.Two
    else if bytes_eq name (codes "but") then word.But
    else if bytes_eq name (codes "quiet") then word.Quiet
    else if bytes_eq name (codes "all") then word.All
    else if bytes_eq name (codes "ask") then word.Ask
    else if bytes_eq name (codes "bye") then word.Bye
    else if bytes_eq name (codes "pull") then word.Pull
    else if bytes_eq name (codes "push") then word.Push
    else if bytes_eq name (codes "kick") then word.Kick
    else word.Other

abbrev pub word_or_other : Option (Option (List ℕ)) → Word
word_or_other (Some (Some name)) = word_of name
word_or_other (Some None) = word.Other
word_or_other None = word.Other

-- the first text is the event's name
abbrev pub word_in : List (Option (List ℕ)) → Word
word_in texts = word_or_other (slice_get texts 0)

-- a text of at most 64 bytes names a room
abbrev pub room_of : Option (Option (List ℕ)) → Option (List ℕ)
room_of (Some (Some name)) = if nat_lt 64 (length name) then None else Some name
room_of (Some None) = None
room_of None = None

-- the room that the text at an index names
abbrev pub room_in : (index : ℕ) → List (Option (List ℕ)) → Option (List ℕ)
room_in index texts = room_of (slice_get texts index)

-- ---- the effects

-- the event as it came, for these rooms of the socket's namespace except those
abbrev pub emit : Who → (rooms excepted : List (List ℕ)) → (logged : Bool) → Message → Effect
emit who rooms excepted logged m =
    effect.Emit (record {
      space = who.space;
      rooms = rooms;
      excepted = excepted;
      form = form.Event logged;
      payload = m.payload;
      attachments = m.attachments;
    })

abbrev pub to_two : Who → (room : List ℕ) → Option (List ℕ) → Message → Option Effect
to_two who r (Some q) m = Some (emit who (r ∷ q ∷ []) (own_room who.sid ∷ []) true m)
to_two who r None m = None

abbrev pub to_one_but : Who → (room : List ℕ) → Option (List ℕ) → Message → Option Effect
to_one_but who r (Some q) m = Some (emit who (r ∷ []) (q ∷ own_room who.sid ∷ []) true m)
to_one_but who r None m = None

-- the event as it came, as a question to its socket; an answer is waited for ten seconds
abbrev pub ask : Message → Effect
ask m =
    effect.EmitAsk (record {
      payload = m.payload;
      attachments = m.attachments;
      tag = 0;
      wait = 10000;
    })

-- the sockets of a room of the socket's namespace, except those in some others
abbrev pub select : Who → (room : List ℕ) → (excepted : List (List ℕ)) → PlainSelection
select who room excepted = record { space = who.space; rooms = room ∷ []; excepted = excepted }

-- the sockets of a room join a second one, or leave it
abbrev pub pull : Who → (room : List ℕ) → Option (List ℕ) → Option Effect
pull who r (Some q) = Some (effect.AllJoin (select who r []) q)
pull who r None = None

abbrev pub push : Who → (room : List ℕ) → Option (List ℕ) → Option Effect
push who r (Some q) = Some (effect.AllLeave (select who r []) q)
push who r None = None

-- by what is asked for and the first two rooms
abbrev pub effect_for : Who → Word → (r q : Option (List ℕ)) → Message → Option Effect
effect_for who word.Join (Some r) q m = Some (effect.Join r)
effect_for who word.Leave (Some r) q m = Some (effect.Leave r)
effect_for who word.Say (Some r) q m = Some (emit who (r ∷ []) (own_room who.sid ∷ []) true m)
effect_for who word.Two (Some r) q m = to_two who r q m
effect_for who word.But (Some r) q m = to_one_but who r q m
effect_for who word.Quiet (Some r) q m = Some (emit who (r ∷ []) (own_room who.sid ∷ []) false m)
effect_for who word.All r q m = Some (emit who [] [] true m)
effect_for who word.Ask r q m = Some (ask m)
effect_for who word.Pull (Some r) q m = pull who r q
effect_for who word.Push (Some r) q m = push who r q
effect_for who word.Kick (Some r) q m = Some (effect.AllEnd (select who r (own_room who.sid ∷ [])))
effect_for who _ r q m = None

-- what an event does before it is acknowledged
abbrev pub first_effect : Who → List (Option (List ℕ)) → Message → Option Effect
first_effect who texts m = effect_for who (word_in texts) (room_in 1 texts) (room_in 2 texts) m

-- the acknowledgement
abbrev pub reply : Effect
reply = effect.Reply (record { payload = codes "[]"; attachments = [] })

-- the effect alone, if there is one
abbrev pub listed : Option Effect → List Effect
listed (Some e) = e ∷ []
listed None = []

-- where an acknowledgement was asked for
abbrev pub answer : Bool → List Effect
answer asked = if asked then reply ∷ [] else []

abbrev pub farewell : Word → List Effect
farewell word.Bye = effect.Disconnect ∷ []
farewell _ = []

-- the effects of an event with these texts: where it was asked, the acknowledgement comes last
-- but for the disconnection
abbrev pub effects_by : (texts : List (Option (List ℕ))) → Who → Message → List Effect
effects_by texts who m = listed (first_effect who texts m)
    ++ answer (is_some m.id)
    ++ farewell (word_in texts)

abbrev pub effects_of : Who → Message → List Effect
effects_of who m = effects_by (texts_of m.payload) who m

-- what the app decides: nothing but an event has effects
abbrev pub decided : Who → Arrived → List Effect
decided who (Event m) = effects_of who m
decided who _ = []
