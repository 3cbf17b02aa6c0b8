-- What backends are told of what clients do.
use Rattle.std.specs.Prelude.{ℕ, Bool, false, ◌||◌, ◌==◌, if◌then◌else◌, List, [], ◌∷◌, ◌++◌, map, take, decimal, codes, Option, Some, None}
use Rattle.std.specs.List.{after_first, list_any}
use Rattle.json.specs.Token.{Token, begin_array, end_array, string, number, null}
use Rattle.json.specs.Print.{print}
use Rattle.terms.specs.Ids.{id_digits}
use Rattle.journal.specs.declared.ending.Ending.{Ending}
use Rattle.journal.specs.declared.form.Form.TheVariants as form
use Rattle.events.specs.Ending.{ending_word}
use Rattle.events.specs.declared.app.Who.{Who}
use Rattle.events.specs.declared.app.Arrived.{Arrived}
use Rattle.events.specs.declared.app.Arrived.TheVariants.{Connected, Returned, Event, Answer, Stray}
use Rattle.events.specs.declared.app.Effect.{Effect}
use Rattle.events.specs.declared.app.Effect.TheVariants.{Emit}

-- the namespace of the backends
abbrev pub BACKENDS : List ℕ
BACKENDS = codes "/backend"

-- ---- the texts

-- each begins with its name, and the namespace and the session id of the socket
abbrev pub head : (name : List ℕ) → Who → List Token
head name who = begin_array ∷ string name ∷ string who.space ∷ string (id_digits who.sid) ∷ []

-- a list of rooms
abbrev pub list_of : List (List ℕ) → List Token
list_of rooms = begin_array ∷ map string rooms ++ end_array ∷ []

-- the id under which an event asks for an acknowledgement
abbrev pub id_token : Option ℕ → Token
id_token None = null
id_token (Some id) = number (decimal id)

-- the white space of JSON
abbrev pub is_space : ℕ → Bool
is_space b = (b == 32) || (b == 9) || (b == 10) || (b == 13)

-- after white space comes the end of an array
abbrev pub begins_with_end : List ℕ → Bool
begins_with_end [] = false
begins_with_end (b ∷ bs) = if is_space b then begins_with_end bs else b == 93

-- what follows the first `[` of an array as it is
abbrev pub after_bracket : (array : List ℕ) → List ℕ
after_bracket array = if list_any (λ b. b == 91) array then after_first (λ b. b == 91) array else codes "]"

-- a text that ends with an element, and the rest of an array, with a comma where an element follows
abbrev pub with_rest : (text rest : List ℕ) → List ℕ
with_rest text rest = if begins_with_end rest then text ++ rest else text ++ codes "," ++ rest

-- a text that ends with an element, and the elements of an array and its end
abbrev pub with_elements : (text array : List ℕ) → List ℕ
with_elements text array = with_rest text (after_bracket array)

-- a text that ends with an element, and one more element, where there is one
abbrev pub with_element : (text element : List ℕ) → List ℕ
with_element text [] = text
with_element text (b ∷ bs) = text ++ codes "," ++ (b ∷ bs)

-- a socket has connected
abbrev pub connection_text : Who → (payload claims : List ℕ) → List ℕ
connection_text who payload claims =
    with_element (with_element (print (head (codes "connection") who ++ null ∷ [])) payload) claims ++ codes "]"

-- a session has come back
abbrev pub return_text : Who → (rooms : List (List ℕ)) → List ℕ
return_text who rooms = print (head (codes "connection") who ++ list_of rooms ++ end_array ∷ [])

-- a packet of this name came
abbrev pub packet_text : (name : List ℕ) → Who → Option ℕ → (payload : List ℕ) → List ℕ
packet_text name who id payload = with_elements (print (head name who ++ id_token id ∷ [])) payload

-- a socket has ended
abbrev pub end_text : Who → (rooms : List (List ℕ)) → Ending → List ℕ
end_text who rooms ending =
    print (head (codes "disconnection") who ++ string (ending_word ending) ∷ [] ++ list_of rooms ++ end_array ∷ [])

-- ---- the effects

-- the room of the first of the 32 digits of the socket's session id
abbrev pub first_digit_room : Who → List ℕ
first_digit_room who = take 1 (id_digits who.sid)

-- an event for the backends in that room. It isn't logged
abbrev pub tell : Who → (payload : List ℕ) → (attachments : List (List ℕ)) → Effect
tell who payload attachments =
    Emit (record {
      space = BACKENDS;
      rooms = first_digit_room who ∷ [];
      excepted = [];
      form = form.Event false;
      payload = payload;
      attachments = attachments;
    })

-- what arrived is told by one event. An answer to the app's own question can't come, since it asks none
abbrev pub told : Who → Arrived → List Effect
told who (Connected n) = tell who (connection_text who n.payload n.claims) [] ∷ []
told who (Returned rooms) = tell who (return_text who rooms) [] ∷ []
told who (Event m) = tell who (packet_text (codes "event") who m.id m.payload) m.attachments ∷ []
told who (Stray s) = tell who (packet_text (codes "answer") who (Some s.id) s.payload) s.attachments ∷ []
told who (Answer answer) = []

-- and so is the end of a socket
abbrev pub told_of_end : Who → (rooms : List (List ℕ)) → Ending → List Effect
told_of_end who rooms ending = tell who (end_text who rooms ending) [] ∷ []
