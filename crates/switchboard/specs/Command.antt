-- What a command of a backend does.
use Rattle.std.specs.Prelude.{ℕ, is_some, if◌then◌else◌, bytes_eq, List, codes, Option, Some, None, Result, Ok, Err}
use Rattle.json.specs.Json.{Json, document}
use Rattle.json.specs.Find.{at, as_str}
use Rattle.events.specs.declared.app.Message.{Message}
use Rattle.events.specs.declared.app.Effect.{Effect}
use Rattle.switchboard.specs.declared.command.Name.{Name}
use Rattle.switchboard.specs.declared.command.Name.TheVariants.{Emit, SocketsJoin, SocketsLeave, DisconnectSockets, FetchSockets}
use Rattle.switchboard.specs.declared.command.CommandError.{CommandError}
use Rattle.switchboard.specs.declared.command.CommandError.TheVariants.{UnknownCommand, Malformed}
use Rattle.switchboard.specs.Options.{options_of}
use Rattle.switchboard.specs.Emission.{emitted}
use Rattle.switchboard.specs.Changes.{joined, left, disconnected, fetched}
use Rattle.switchboard.specs.Replies.{error_reply, where_asked}

-- the command of this name
abbrev pub name_of : List ℕ → Result Name CommandError
name_of name =
    if bytes_eq name (codes "emit") then Ok Emit
    else if bytes_eq name (codes "socketsJoin") then Ok SocketsJoin
    else if bytes_eq name (codes "socketsLeave") then Ok SocketsLeave
    else if bytes_eq name (codes "disconnectSockets") then Ok DisconnectSockets
    else if bytes_eq name (codes "fetchSockets") then Ok FetchSockets
    else Err UnknownCommand

-- a name that is no text is no command's
abbrev pub name_or_unknown : Option (List ℕ) → Result Name CommandError
name_or_unknown None = Err UnknownCommand
name_or_unknown (Some name) = name_of name

-- where nothing stands there is no command
abbrev pub named_by : Option Json → Result Name CommandError
named_by None = Err Malformed
named_by (Some first) = name_or_unknown (as_str first)

-- its first element names it
abbrev pub name_in : (command : Json) → Result Name CommandError
name_in command = named_by (at 0 command)

-- each command by its name
abbrev pub done : (spaces : List (List ℕ)) → Name → (command options : Json) → Message → Result (List Effect) CommandError
done spaces Emit command options m = emitted spaces command options m
done spaces SocketsJoin command options m = joined spaces command options m
done spaces SocketsLeave command options m = left spaces command options m
done spaces DisconnectSockets command options m = disconnected spaces options m
done spaces FetchSockets command options m = fetched spaces options m

-- where there are no good options it is refused
abbrev pub done_with : (spaces : List (List ℕ)) → Name → (command : Json) → Option Json → Message → Result (List Effect) CommandError
done_with spaces name command None m = Err Malformed
done_with spaces name command (Some options) m = done spaces name command options m

-- where its name is known
abbrev pub done_by : (spaces : List (List ℕ)) → Result Name CommandError → (command : Json) → Message → Result (List Effect) CommandError
done_by spaces (Err why) command m = Err why
done_by spaces (Ok name) command m = done_with spaces name command (options_of command) m

-- where it could be read
abbrev pub wanted_by : (spaces : List (List ℕ)) → Option Json → Message → Result (List Effect) CommandError
wanted_by spaces None m = Err Malformed
wanted_by spaces (Some command) m = done_by spaces (name_in command) command m

-- what a command wants, by its name: an unknown name is refused first, then bad options
abbrev pub wanted : (spaces : List (List ℕ)) → Message → Result (List Effect) CommandError
wanted spaces m = wanted_by spaces (document m.payload) m

-- what is refused is told where an acknowledgement was asked for
abbrev pub or_told : Message → Result (List Effect) CommandError → List Effect
or_told m (Ok effects) = effects
or_told m (Err why) = where_asked (is_some m.id) (error_reply why)

-- the effects of a command. One that is refused does nothing, and who asked is told why
abbrev pub commanded : (spaces : List (List ℕ)) → Message → List Effect
commanded spaces m = or_told m (wanted spaces m)
