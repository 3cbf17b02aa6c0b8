-- What the warden is told, and what it says itself.
use Rattle.std.specs.Prelude.{ℕ, false, List, [], ◌∷◌, ◌++◌, decimal, codes, Option, Some, None, option_map}
use Rattle.json.specs.Token.{Token, begin_array, end_array, begin_object, end_object, key, string, number}
use Rattle.json.specs.Print.{print}
use Rattle.terms.specs.Ids.{id_digits}
use Rattle.journal.specs.declared.ending.Ending.{Ending}
use Rattle.journal.specs.declared.ending.Ending.TheVariants.{Saved, Closed, Alone, Together}
use Rattle.journal.specs.declared.form.Form.TheVariants as form
use Rattle.events.specs.declared.app.Who.{Who}
use Rattle.events.specs.declared.app.Arrived.{Arrived}
use Rattle.events.specs.declared.app.Arrived.TheVariants.{Connected, Returned, Event, Answer, Stray}
use Rattle.events.specs.declared.app.Effect.{Effect}
use Rattle.events.specs.declared.app.Effect.TheVariants.{Emit}
use Rattle.tokens.specs.Expires.{expires_in}

-- the namespace of the warden
abbrev pub EXPIRY : List ℕ
EXPIRY = codes "/expiry"

-- ---- the texts

-- each begins with its name, and the namespace and the session id of a socket
abbrev pub head : (name space id : List ℕ) → List Token
head name space id = begin_array ∷ string name ∷ string space ∷ string id ∷ []

-- a socket has come whose token expires then, in seconds since 1970
abbrev pub came_text : Who → (expires : ℕ) → List ℕ
came_text who expires = print (head (codes "came") who.space (id_digits who.sid) ++ number (decimal expires) ∷ [] ++ end_array ∷ [])

-- a socket has done what a word says
abbrev pub word_text : (word : List ℕ) → Who → List ℕ
word_text word who = print (head word who.space (id_digits who.sid) ++ end_array ∷ [])

-- a socket is to be ended
abbrev pub end_text : (space room : List ℕ) → List ℕ
end_text space room = print (head (codes "end") space room ++ end_array ∷ [])

-- the payload of the warden's CONNECT
abbrev pub connect_text : (token : List ℕ) → List ℕ
connect_text token = print (begin_object ∷ key (codes "token") ∷ string token ∷ end_object ∷ [])

-- ---- what is told

-- who came with a token that expires, and who came back
abbrev pub told : Who → Arrived → Option (List ℕ)
told who (Connected newcomer) = option_map (came_text who) (expires_in newcomer.claims)
told who (Returned rooms) = Some (word_text (codes "back") who)
told who (Event message) = None
told who (Answer answer) = None
told who (Stray stray) = None

-- whose session is saved, and who ended for good
abbrev pub told_of_end : Who → Ending → List ℕ
told_of_end who Saved = word_text (codes "away") who
told_of_end who Closed = word_text (codes "gone") who
told_of_end who (Alone side) = word_text (codes "gone") who
told_of_end who Together = word_text (codes "gone") who

-- ---- the effects

-- an event for everybody in the namespace of the warden. It isn't logged
abbrev pub event : (payload : List ℕ) → Effect
event payload =
    Emit (record {
      space = EXPIRY;
      rooms = [];
      excepted = [];
      form = form.Event false;
      payload = payload;
      attachments = [];
    })

-- the event of what is told, if anything is
abbrev pub events_of : Option (List ℕ) → List Effect
events_of None = []
events_of (Some payload) = event payload ∷ []
