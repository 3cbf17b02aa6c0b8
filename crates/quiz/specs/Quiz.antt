-- What the quiz does with what arrives.
use Rattle.std.specs.Prelude.{◌≡◌, ℕ, Bool, true, false, if◌then◌else◌, List, [], ◌∷◌, ◌++◌, codes, bytes_eq, is_some, Option, Some, None, Result, Ok, Err, slice_get}
use Rattle.sio_wire.specs.declared.error.SioError.{SioError}
use Rattle.sio_wire.specs.JsonFields.{names_at}
use Rattle.journal.specs.declared.form.Form.TheVariants as form
use Rattle.events.specs.App.{PlainVerdict, Accepted, Refused}
use Rattle.events.specs.declared.app.Arrived.{Arrived}
use Rattle.events.specs.declared.app.Arrived.TheVariants.{Event, Answer}
use Rattle.events.specs.declared.app.Effect.{Effect}
use Rattle.events.specs.declared.app.Who.{Who}
use Rattle.events.specs.declared.app.Effect.TheVariants as effect

-- every client may connect
abbrev pub Allows : PlainVerdict → Type 0
Allows (Accepted effects) = effects ≡ []
Allows (Refused message) = ⊥

abbrev pub is_text : Option (Option (List ℕ)) → (word : List ℕ) → Bool
is_text (Some (Some text)) word = bytes_eq text word
is_text (Some None) word = false
is_text None word = false

abbrev pub is_first_of : Result (List (Option (List ℕ))) SioError → (word : List ℕ) → Bool
is_first_of (Ok texts) word = is_text (slice_get texts 0) word
is_first_of (Err fault) word = false

-- whether a payload is an array that begins with this text
abbrev pub begins_with : (payload word : List ℕ) → Bool
begins_with payload word = is_first_of (names_at payload) word

-- the question, whose answer is waited for thirty seconds
abbrev pub ask : Effect
ask =
    effect.EmitAsk (record {
      payload = codes "[\"question\",\"How much is six times seven?\"]";
      attachments = [];
      tag = 1;
      wait = 30000;
    })

-- everybody in the socket's namespace hears that it is solved
abbrev pub announce : Who → Effect
announce who =
    effect.Emit (record {
      space = who.space;
      rooms = [];
      excepted = [];
      form = form.Event true;
      payload = codes "[\"solved\"]";
      attachments = [];
    })

abbrev pub reply : Effect
reply = effect.Reply (record { payload = codes "[]"; attachments = [] })

-- who plays is asked, and asked again until the answer is right; what asks for an acknowledgement
-- gets one, and nothing else has effects
abbrev pub decided : Who → Arrived → List Effect
decided who (Event message) =
    (if begins_with message.payload (codes "play") then ask ∷ [] else [])
    ++ (if is_some message.id then reply ∷ [] else [])
decided who (Answer answer) =
    (if begins_with answer.payload (codes "42") then announce who else ask) ∷ []
decided who _ = []
