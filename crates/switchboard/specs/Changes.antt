-- The commands that change or list the sockets that are meant.
use Rattle.std.specs.Prelude.{ℕ, is_some, List, [], ◌∷◌, ◌++◌, Option, Some, None, option_and_then, Result, Ok, Err}
use Rattle.json.specs.Json.{Json}
use Rattle.json.specs.Find.{at, as_str}
use Rattle.events.specs.Selection.{PlainSelection}
use Rattle.events.specs.declared.app.Message.{Message}
use Rattle.events.specs.declared.app.Effect.{Effect}
use Rattle.events.specs.declared.app.Effect.TheVariants.{AllJoin, AllLeave, AllEnd, Fetch, Report}
use Rattle.switchboard.specs.declared.command.CommandError.{CommandError}
use Rattle.switchboard.specs.declared.command.CommandError.TheVariants.{Malformed, BadRoom}
use Rattle.switchboard.specs.Sockets.{selection_of, short}
use Rattle.switchboard.specs.Replies.{ok_reply, where_asked}

-- a room whose name is too long is refused after the sockets
abbrev pub move_to : Result PlainSelection CommandError → Option (List ℕ) → Result (PlainSelection × List ℕ) CommandError
move_to (Err why) room = Err why
move_to (Ok selection) None = Err BadRoom
move_to (Ok selection) (Some room) = Ok (selection, room)

-- where no text names a room, this is refused before the sockets
abbrev pub move_by : Result PlainSelection CommandError → Option (List ℕ) → Result (PlainSelection × List ℕ) CommandError
move_by selection None = Err Malformed
move_by selection (Some name) = move_to selection (short (Some name))

-- the sockets, and the room that the third element names. That it is no text is refused first, and that it is too long last
abbrev pub move_of : (spaces : List (List ℕ)) → (command options : Json) → Result (PlainSelection × List ℕ) CommandError
move_of spaces command options = move_by (selection_of spaces options) (option_and_then as_str (at 2 command))

-- a change, and then the word of what it did
abbrev pub reported : Effect → Message → List Effect
reported change m = change ∷ where_asked (is_some m.id) Report

-- the sockets join the room
abbrev pub then_join : Message → Result (PlainSelection × List ℕ) CommandError → Result (List Effect) CommandError
then_join m (Err why) = Err why
then_join m (Ok move) = Ok (reported (AllJoin move.0 move.1) m)

-- the effects of `socketsJoin`
abbrev pub joined : (spaces : List (List ℕ)) → (command options : Json) → Message → Result (List Effect) CommandError
joined spaces command options m = then_join m (move_of spaces command options)

-- the sockets leave the room
abbrev pub then_leave : Message → Result (PlainSelection × List ℕ) CommandError → Result (List Effect) CommandError
then_leave m (Err why) = Err why
then_leave m (Ok move) = Ok (reported (AllLeave move.0 move.1) m)

-- the effects of `socketsLeave`
abbrev pub left : (spaces : List (List ℕ)) → (command options : Json) → Message → Result (List Effect) CommandError
left spaces command options m = then_leave m (move_of spaces command options)

-- the sockets are disconnected
abbrev pub then_end : Message → Result PlainSelection CommandError → Result (List Effect) CommandError
then_end m (Err why) = Err why
then_end m (Ok selection) = Ok (where_asked (is_some m.id) ok_reply ++ AllEnd selection ∷ [])

-- the effects of `disconnectSockets`: the acknowledgement is first, since the socket that acts may be among them
abbrev pub disconnected : (spaces : List (List ℕ)) → (options : Json) → Message → Result (List Effect) CommandError
disconnected spaces options m = then_end m (selection_of spaces options)

-- the sockets are listed
abbrev pub then_fetch : Message → Result PlainSelection CommandError → Result (List Effect) CommandError
then_fetch m (Err why) = Err why
then_fetch m (Ok selection) = Ok (where_asked (is_some m.id) (Fetch selection))

-- the effects of `fetchSockets`
abbrev pub fetched : (spaces : List (List ℕ)) → (options : Json) → Message → Result (List Effect) CommandError
fetched spaces options m = then_fetch m (selection_of spaces options)
