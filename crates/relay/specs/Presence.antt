-- What the rooms of a socket that has ended are told.
use Rattle.std.specs.Prelude.{◌≡◌, ℕ, Bool, true, not, if◌then◌else◌, List, [], ◌∷◌, ◌++◌, filter, codes}
use Rattle.terms.specs.Ids.{id_digits}
use Rattle.terms.specs.Room.{own_room, same_room}
use Rattle.journal.specs.declared.ending.Ending.{Ending}
use Rattle.journal.specs.declared.form.Form.TheVariants as form
use Rattle.events.specs.declared.app.Effect.{Effect}
use Rattle.events.specs.declared.app.Who.{Who}
use Rattle.events.specs.Ending.{ending_word}
use Rattle.events.specs.declared.app.Effect.TheVariants.{Emit}

-- the event: the socket's id, as its client was told it, and how it ended
abbrev pub payload : (sid : ℕ) → Ending → List ℕ
payload sid ending = codes "[\"left\",\"" ++ id_digits sid ++ codes "\",\"" ++ ending_word ending ++ codes "\"]"

-- the rooms but this one
abbrev pub others : (own : List ℕ) → List (List ℕ) → List (List ℕ)
others own rooms = filter (λ room. not (same_room room own)) rooms

-- the event for these rooms of its namespace, but not for the socket itself, should it come back; it is logged, so others who
-- come back get it, too. Where there are none there is no event
abbrev pub event_for : List (List ℕ) → Who → Ending → List Effect
event_for [] who ending = []
event_for (room ∷ rooms) who ending =
    Emit (record {
      space = who.space;
      rooms = room ∷ rooms;
      excepted = own_room who.sid ∷ [];
      form = form.Event true;
      payload = payload who.sid ending;
      attachments = [];
    })
    ∷ []

-- what the rooms of a socket besides its own are told
abbrev pub told_of : Who → List (List ℕ) → Ending → List Effect
told_of who rooms ending = event_for (others (own_room who.sid) rooms) who ending

-- they are told it, or nobody is told anything
abbrev pub told : (tells : Bool) → Who → List (List ℕ) → Ending → List Effect
told tells who rooms ending = if tells then told_of who rooms ending else []

-- effects that an app may want, and then what is told
abbrev pub Leaves : (wants : List Effect → Type 0) → (told : List Effect) → List Effect → Type 0
Leaves wants told effects = (inner : List Effect) × wants inner × (effects ≡ inner ++ told)
