-- How a command is acknowledged.
use Rattle.std.specs.Prelude.{◌≡◌, ◌⊎◌, ℕ, Bool, if◌then◌else◌, List, [], ◌∷◌, ◌++◌, codes, Result, Ok, Err}
use Rattle.events.specs.declared.app.Effect.{Effect}
use Rattle.events.specs.declared.app.Effect.TheVariants.{Reply}
use Rattle.switchboard.specs.declared.command.CommandError.{CommandError}
use Rattle.switchboard.specs.declared.command.CommandError.TheVariants.{Memory, UnknownCommand, Malformed, UnknownNamespace, BadRoom, BadId, ReservedName}

-- why a command isn't done, as the backend is told. That memory was refused is told to nobody
abbrev pub error_text : CommandError → List ℕ
error_text Memory = codes "no memory"
error_text UnknownCommand = codes "unknown command"
error_text Malformed = codes "malformed command"
error_text UnknownNamespace = codes "unknown namespace"
error_text BadRoom = codes "bad room"
error_text BadId = codes "bad id"
error_text ReservedName = codes "reserved name"

-- a call gives what is due, seen so, or the error that is, unless memory was refused
abbrev pub Gives : {T X : Type 0} → Result T CommandError → (seen : T → X) → (due : Result X CommandError) → Type 0
Gives (Ok value) seen due = due ≡ Ok (seen value)
Gives (Err why) seen due = (why ≡ Memory) ⊎ (due ≡ Err why)

-- it was done
abbrev pub ok_reply : Effect
ok_reply = Reply (record { payload = codes "[\"ok\"]"; attachments = [] })

-- it wasn't
abbrev pub error_reply : CommandError → Effect
error_reply why = Reply (record { payload = codes "[\"error\",\"" ++ error_text why ++ codes "\"]"; attachments = [] })

-- an acknowledgement, where one was asked for
abbrev pub where_asked : Bool → Effect → List Effect
where_asked asked reply = if asked then reply ∷ [] else []
