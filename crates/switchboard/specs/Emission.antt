-- What `emit` sends.
use Rattle.std.specs.Prelude.{ℕ, Bool, false, ◌||◌, is_some, if◌then◌else◌, bytes_eq, List, ◌∷◌, codes, Option, Some, None, option_and_then, Result, Ok, Err}
use Rattle.json.specs.Json.{Json}
use Rattle.json.specs.Find.{get, at, as_str, as_number}
use Rattle.journal.specs.declared.form.Form.{Form}
use Rattle.journal.specs.declared.form.Form.TheVariants as form
use Rattle.events.specs.Selection.{PlainSelection}
use Rattle.events.specs.declared.app.Message.{Message}
use Rattle.events.specs.declared.app.Effect.{Effect}
use Rattle.events.specs.declared.app.Effect.TheVariants.{Emit}
use Rattle.switchboard.specs.declared.command.CommandError.{CommandError}
use Rattle.switchboard.specs.declared.command.CommandError.TheVariants.{Malformed, ReservedName}
use Rattle.switchboard.specs.Sockets.{selection_of}
use Rattle.switchboard.specs.Form.{form_of}
use Rattle.switchboard.specs.Arguments.{arguments}
use Rattle.switchboard.specs.Replies.{ok_reply, where_asked}

-- an event's name is a text or a number
abbrev pub is_name : Option Json → Bool
is_name None = false
is_name (Some name) = is_some (as_str name) || is_some (as_number name)

-- the arguments begin with a name, or are those of an answer
abbrev pub has_event : (command options : Json) → Bool
has_event command options = is_some (get (codes "answer") options) || is_name (at 2 command)

-- the names that the protocol keeps for itself
abbrev pub is_reserved_name : List ℕ → Bool
is_reserved_name name =
    bytes_eq name (codes "connect") || bytes_eq name (codes "connect_error")
    || bytes_eq name (codes "disconnect") || bytes_eq name (codes "disconnecting")
    || bytes_eq name (codes "newListener") || bytes_eq name (codes "removeListener")

-- an event whose name is no text has none of these
abbrev pub has_reserved_name : Option (List ℕ) → Bool
has_reserved_name None = false
has_reserved_name (Some name) = is_reserved_name name

-- an answer has no name
abbrev pub is_reserved : Form → Option Json → Bool
is_reserved (form.Event logged) first = has_reserved_name (option_and_then as_str first)
is_reserved (form.Question id) first = has_reserved_name (option_and_then as_str first)
is_reserved (form.Answer id) first = false

-- the emission, and then the acknowledgement
abbrev pub sent : PlainSelection → Form → (command : Json) → Message → List Effect
sent selection form command m =
    Emit (record {
      space = selection.space;
      rooms = selection.rooms;
      excepted = selection.excepted;
      form = form;
      payload = arguments command;
      attachments = m.attachments;
    })
    ∷ where_asked (is_some m.id) ok_reply

-- a reserved name is refused last
abbrev pub sent_to : Result PlainSelection CommandError → Result Form CommandError → (command : Json) → Message → Result (List Effect) CommandError
sent_to (Err why) form command m = Err why
sent_to (Ok selection) (Err why) command m = Err why
sent_to (Ok selection) (Ok form) command m =
    if is_reserved form (at 2 command) then Err ReservedName else Ok (sent selection form command m)

-- the effects of `emit`: an event without a name is refused first, then the namespace, the rooms, the id
abbrev pub emitted : (spaces : List (List ℕ)) → (command options : Json) → Message → Result (List Effect) CommandError
emitted spaces command options m =
    if has_event command options
    then sent_to (selection_of spaces options) (form_of options) command m
    else Err Malformed
