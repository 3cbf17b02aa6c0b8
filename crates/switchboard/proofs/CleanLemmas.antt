-- No effect of the app holds U+001E, where what arrived holds none.
use Rattle.std.proofs.Common.{◌≡◌, refl, ℕ, Bool, true, false, List, [], ◌∷◌, ◌++◌, Option, Some, None, Result, Ok, Err, decimal, map, option_and_then}
use Rattle.std.specs.Prelude.{⊤, codes, if◌then◌else◌, is_some, IfOk}
use Rattle.std.specs.List.{AllByRecursion}
use Rattle.json.specs.Token.{Token, begin_array, end_array, string, number, null}
use Rattle.json.specs.Json.{Json, document}
use Rattle.json.specs.Find.{at}
use Rattle.json.specs.Print.{print, token_text}
use Rattle.json.specs.Tree.{HasNumbers}
use Rattle.json.proofs.Numbered.{document-HasNumbers}
use Rattle.json.proofs.Printed.Trees.{ArePrintable-json_tokens}
use Rattle.terms.specs.Ids.{id_digits}
use Rattle.journal.specs.declared.ending.Ending.{Ending}
use Rattle.journal.specs.declared.form.Form.{Form}
use Rattle.eio_wire.specs.Payload.{IsWhole}
use Rattle.events.specs.Ending.{ending_word}
use Rattle.events.specs.Selection.{PlainSelection}
use Rattle.events.specs.App.{IsCleanArrival, IsCleanEffect, AllClean, IsCleanVerdict}
use Rattle.events.specs.declared.app.Message.{Message}
use Rattle.events.specs.declared.app.Arrived.{Arrived}
use Rattle.events.specs.declared.app.Arrived.TheVariants.{Connected, Returned, Event, Answer, Stray}
use Rattle.events.specs.declared.app.Effect.{Effect}
use Rattle.events.specs.declared.app.Effect.TheVariants.{AllEnd, Report, Fetch}
use Rattle.events.specs.declared.app.Who.{Who}
use Rattle.events.proofs.WholeLemmas.{holds_none, both, whole}
use Rattle.switchboard.specs.declared.command.CommandError.{CommandError}
use Rattle.switchboard.specs.declared.command.CommandError.TheVariants.{Memory, UnknownCommand, Malformed, UnknownNamespace, BadRoom, BadId, ReservedName}
use Rattle.switchboard.specs.declared.command.Name.{Name}
use Rattle.switchboard.specs.declared.command.Name.TheVariants.{Emit, SocketsJoin, SocketsLeave, DisconnectSockets, FetchSockets}
use Rattle.switchboard.specs.Digits.{digit_room, join_too, joins, joins_verdict, digits_in, digits_verdict}
use Rattle.switchboard.specs.Telling.{head, list_of, id_token, connection_text, return_text, packet_text, end_text, told, told_of_end}
use Rattle.switchboard.specs.Replies.{error_text, ok_reply, error_reply, where_asked}
use Rattle.switchboard.specs.Options.{options_of}
use Rattle.switchboard.specs.Sockets.{selection_of}
use Rattle.switchboard.specs.Form.{form_of}
use Rattle.switchboard.specs.Arguments.{arguments, arguments_array}
use Rattle.switchboard.specs.Emission.{has_event, is_reserved, sent, sent_to, emitted}
use Rattle.switchboard.specs.Changes.{move_of, then_join, then_leave, then_end, then_fetch}
use Rattle.switchboard.specs.Command.{name_in, done, done_with, done_by, wanted_by, wanted, or_told, commanded}
use Rattle.switchboard.proofs.ArgumentsLemmas.{numbers-arguments}
use Rattle.guarded.proofs.PrintLemmas.{AreWhole, AreWhole-printable, AreWhole-strings, whole-print, whole-decimal, whole-token_text}
use Rattle.switchboard.proofs.TellingLemmas.{whole-with_elements, whole-with_element}

all_append : {A : Type 0} (P : A → Type 0) (xs ys : List A) → AllByRecursion P xs → AllByRecursion P ys → AllByRecursion P (xs ++ ys)
all_append P [] ys front back = back
all_append P (x ∷ xs) ys front back = (front.0, all_append P xs ys front.1 back)

-- what holds where a call succeeds
pub if_ok : {V E : Type 0} (P Q : V → Type 0) (r : Result V E) → ((v : V) → P v → Q v) → IfOk r P → IfOk r Q
if_ok P Q (Ok v) more holds = more v holds
if_ok P Q (Err e) more holds = tt

-- ---- what is told

AreWhole-append : (ts us : List Token) → AreWhole ts → AreWhole us → AreWhole (ts ++ us)
AreWhole-append ts us = all_append (λ t. IsWhole (token_text t)) ts us

AreWhole-head : (name : List ℕ) (who : Who) → AreWhole (head name who)
AreWhole-head name who =
    (whole-token_text begin_array tt, (whole-token_text (string name) tt, (whole-token_text (string who.space) tt, (whole-token_text (string (id_digits who.sid)) tt, tt))))

AreWhole-id : (id : Option ℕ) → AreWhole (id_token id ∷ [])
AreWhole-id None = (whole-token_text null tt, tt)
AreWhole-id (Some id) = (whole-decimal id, tt)

AreWhole-list_of : (rooms : List (List ℕ)) → AreWhole (list_of rooms)
AreWhole-list_of rooms =
    (whole-token_text begin_array tt, AreWhole-append (map string rooms) (end_array ∷ []) (AreWhole-strings rooms) (whole-token_text end_array tt, tt))

-- the beginning of an event, and more
whole-begun : (name : List ℕ) (who : Who) (ts : List Token) → AreWhole ts → IsWhole (print (head name who ++ ts))
whole-begun name who ts are = whole-print (head name who ++ ts) (AreWhole-append (head name who) ts (AreWhole-head name who) are)

whole-connection : (who : Who) (payload claims : List ℕ) → IsWhole payload → IsWhole claims → IsWhole (connection_text who payload claims)
unfolding holds_none
whole-connection who payload claims clean also =
    let begun = whole-begun (codes "connection") who (null ∷ []) (whole-token_text null tt, tt) in
    both _ (codes "]") (whole-with_element _ claims (whole-with_element _ payload begun clean) also) (whole (codes "]") refl)

whole-return : (who : Who) (rooms : List (List ℕ)) → IsWhole (return_text who rooms)
whole-return who rooms =
    let front = head (codes "connection") who ++ list_of rooms in
    whole-print (front ++ end_array ∷ [])
    (AreWhole-append front (end_array ∷ []) (AreWhole-append (head (codes "connection") who) (list_of rooms) (AreWhole-head (codes "connection") who) (AreWhole-list_of rooms)) (whole-token_text end_array tt, tt))

whole-packet : (name : List ℕ) (who : Who) (id : Option ℕ) (payload : List ℕ) → IsWhole payload → IsWhole (packet_text name who id payload)
whole-packet name who id payload clean = whole-with_elements _ payload (whole-begun name who (id_token id ∷ []) (AreWhole-id id)) clean

whole-end : (who : Who) (rooms : List (List ℕ)) (ending : Ending) → IsWhole (end_text who rooms ending)
whole-end who rooms ending =
    let begun = head (codes "disconnection") who ++ string (ending_word ending) ∷ [] in
    let front = begun ++ list_of rooms in
    whole-print (front ++ end_array ∷ [])
    (AreWhole-append front (end_array ∷ [])
    (AreWhole-append begun (list_of rooms)
    (AreWhole-append (head (codes "disconnection") who) (string (ending_word ending) ∷ []) (AreWhole-head (codes "disconnection") who) (whole-token_text (string (ending_word ending)) tt, tt))
    (AreWhole-list_of rooms))
    (whole-token_text end_array tt, tt))

pub clean-told : (who : Who) (arrived : Arrived) → IsCleanArrival arrived → AllClean (told who arrived)
clean-told who (Connected n) clean = (whole-connection who n.payload n.claims clean.0 clean.1, tt)
clean-told who (Returned rooms) clean = (whole-return who rooms, tt)
clean-told who (Event m) clean = (whole-packet (codes "event") who m.id m.payload clean, tt)
clean-told who (Stray s) clean = (whole-packet (codes "answer") who (Some s.id) s.payload clean, tt)
clean-told who (Answer a) clean = tt

pub clean-told_of_end : (who : Who) (rooms : List (List ℕ)) (ending : Ending) → AllClean (told_of_end who rooms ending)
clean-told_of_end who rooms ending = (whole-end who rooms ending, tt)

-- ---- commands

whole-arguments : (command : Json) → HasNumbers command → IsWhole (arguments command)
whole-arguments command numbers =
    whole-print _ (AreWhole-printable _ (ArePrintable-json_tokens (arguments_array command) (numbers-arguments command numbers)))

-- no effect holds it, where a command isn't refused
abbrev Clean : Result (List Effect) CommandError → Type 0
Clean (Ok effects) = AllClean effects
Clean (Err why) = ⊤

clean-chosen : (b : Bool) (x y : Result (List Effect) CommandError) → Clean x → Clean y → Clean (if b then x else y)
clean-chosen true x y p q = p
clean-chosen false x y p q = q

clean-where_asked : (asked : Bool) (reply : Effect) → IsCleanEffect reply → AllClean (where_asked asked reply)
clean-where_asked true reply clean = (clean, tt)
clean-where_asked false reply clean = tt

whole-ok : IsWhole (codes "[\"ok\"]")
unfolding holds_none
whole-ok = whole (codes "[\"ok\"]") refl

whole-error_text : (why : CommandError) → IsWhole (error_text why)
unfolding holds_none
whole-error_text Memory = whole (codes "no memory") refl
whole-error_text UnknownCommand = whole (codes "unknown command") refl
whole-error_text Malformed = whole (codes "malformed command") refl
whole-error_text UnknownNamespace = whole (codes "unknown namespace") refl
whole-error_text BadRoom = whole (codes "bad room") refl
whole-error_text BadId = whole (codes "bad id") refl
whole-error_text ReservedName = whole (codes "reserved name") refl

clean-error_reply : (why : CommandError) → IsCleanEffect (error_reply why)
unfolding holds_none
clean-error_reply why =
    both (codes "[\"error\",\"" ++ error_text why) (codes "\"]")
    (both (codes "[\"error\",\"") (error_text why) (whole (codes "[\"error\",\"") refl) (whole-error_text why))
    (whole (codes "\"]") refl)

clean-sent_to : (selection : Result PlainSelection CommandError) (form : Result Form CommandError) (command : Json) (m : Message) → HasNumbers command → Clean (sent_to selection form command m)
clean-sent_to (Err why) form command m numbers = tt
clean-sent_to (Ok selection) (Err why) command m numbers = tt
clean-sent_to (Ok selection) (Ok form) command m numbers =
    clean-chosen (is_reserved form (at 2 command)) _ (Ok (sent selection form command m)) tt
    (whole-arguments command numbers, clean-where_asked (is_some m.id) ok_reply whole-ok)

clean-emitted : (spaces : List (List ℕ)) (command options : Json) (m : Message) → HasNumbers command → Clean (emitted spaces command options m)
clean-emitted spaces command options m numbers =
    clean-chosen (has_event command options) _ _ (clean-sent_to (selection_of spaces options) (form_of options) command m numbers) tt

clean-then_join : (m : Message) (move : Result (PlainSelection × List ℕ) CommandError) → Clean (then_join m move)
clean-then_join m (Err why) = tt
clean-then_join m (Ok move) = (tt, clean-where_asked (is_some m.id) Report tt)

clean-then_leave : (m : Message) (move : Result (PlainSelection × List ℕ) CommandError) → Clean (then_leave m move)
clean-then_leave m (Err why) = tt
clean-then_leave m (Ok move) = (tt, clean-where_asked (is_some m.id) Report tt)

clean-then_end : (m : Message) (selection : Result PlainSelection CommandError) → Clean (then_end m selection)
clean-then_end m (Err why) = tt
clean-then_end m (Ok selection) =
    all_append IsCleanEffect (where_asked (is_some m.id) ok_reply) (AllEnd selection ∷ []) (clean-where_asked (is_some m.id) ok_reply whole-ok) (tt, tt)

clean-then_fetch : (m : Message) (selection : Result PlainSelection CommandError) → Clean (then_fetch m selection)
clean-then_fetch m (Err why) = tt
clean-then_fetch m (Ok selection) = clean-where_asked (is_some m.id) (Fetch selection) tt

clean-done : (spaces : List (List ℕ)) (name : Name) (command options : Json) (m : Message) → HasNumbers command → Clean (done spaces name command options m)
clean-done spaces Emit command options m numbers = clean-emitted spaces command options m numbers
clean-done spaces SocketsJoin command options m numbers = clean-then_join m (move_of spaces command options)
clean-done spaces SocketsLeave command options m numbers = clean-then_leave m (move_of spaces command options)
clean-done spaces DisconnectSockets command options m numbers = clean-then_end m (selection_of spaces options)
clean-done spaces FetchSockets command options m numbers = clean-then_fetch m (selection_of spaces options)

clean-done_with : (spaces : List (List ℕ)) (name : Name) (command : Json) (options : Option Json) (m : Message) → HasNumbers command → Clean (done_with spaces name command options m)
clean-done_with spaces name command None m numbers = tt
clean-done_with spaces name command (Some options) m numbers = clean-done spaces name command options m numbers

clean-done_by : (spaces : List (List ℕ)) (name : Result Name CommandError) (command : Json) (m : Message) → HasNumbers command → Clean (done_by spaces name command m)
clean-done_by spaces (Err why) command m numbers = tt
clean-done_by spaces (Ok name) command m numbers = clean-done_with spaces name command (options_of command) m numbers

clean-wanted_by : (spaces : List (List ℕ)) (command : Option Json) (m : Message) → ((j : Json) → command ≡ Some j → HasNumbers j) → Clean (wanted_by spaces command m)
clean-wanted_by spaces None m numbers = tt
clean-wanted_by spaces (Some command) m numbers = clean-done_by spaces (name_in command) command m (numbers command refl)

clean-or_told : (m : Message) (wants : Result (List Effect) CommandError) → Clean wants → AllClean (or_told m wants)
clean-or_told m (Ok effects) clean = clean
clean-or_told m (Err why) clean = clean-where_asked (is_some m.id) (error_reply why) (clean-error_reply why)

pub clean-commanded : (spaces : List (List ℕ)) (m : Message) → AllClean (commanded spaces m)
clean-commanded spaces m = clean-or_told m (wanted spaces m) (clean-wanted_by spaces (document m.payload) m (document-HasNumbers m.payload))

-- ---- backends that connect

abbrev CleanJoins : Option (List Effect) → Type 0
CleanJoins None = ⊤
CleanJoins (Some effects) = AllClean effects

clean-join_too : (room : Option (List ℕ)) (effects : Option (List Effect)) → CleanJoins effects → CleanJoins (join_too room effects)
clean-join_too None effects clean = tt
clean-join_too (Some room) None clean = tt
clean-join_too (Some room) (Some effects) clean = (tt, clean)

clean-joins : (digits : List ℕ) → CleanJoins (joins digits)
clean-joins [] = tt
clean-joins (c ∷ cs) = clean-join_too (digit_room c) (joins cs) (clean-joins cs)

clean-joins_of : (digits : Option (List ℕ)) → CleanJoins (option_and_then joins digits)
clean-joins_of None = tt
clean-joins_of (Some digits) = clean-joins digits

clean-joins_verdict : (payload : List ℕ) (effects : Option (List Effect)) → CleanJoins effects → IsCleanVerdict payload (joins_verdict effects)
clean-joins_verdict payload None clean = tt
clean-joins_verdict payload (Some []) clean = tt
clean-joins_verdict payload (Some (effect ∷ effects)) clean = λ whole. clean

pub clean-digits : (payload : List ℕ) → IsCleanVerdict payload (digits_verdict payload)
clean-digits payload = clean-joins_verdict payload _ (clean-joins_of (digits_in payload))
