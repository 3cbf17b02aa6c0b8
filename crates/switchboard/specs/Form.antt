-- What `emit` sends: an event, a question or an answer.
use Rattle.std.specs.Prelude.{ℕ, Bool, false, not, List, codes, Option, Some, None, option_and_then, Result, Ok, Err}
use Rattle.json.specs.Json.{Json}
use Rattle.json.specs.Find.{get, as_number, as_bool}
use Rattle.journal.specs.declared.form.Form.{Form}
use Rattle.journal.specs.declared.form.Form.TheVariants.{Event, Question, Answer}
use Rattle.tokens.specs.Dates.{read_whole}
use Rattle.switchboard.specs.declared.command.CommandError.{CommandError}
use Rattle.switchboard.specs.declared.command.CommandError.TheVariants.{BadId}

-- a flag that lacks is `false`
abbrev pub is_true : Option Bool → Bool
is_true None = false
is_true (Some flag) = flag

-- it isn't to be logged
abbrev pub is_volatile : Json → Bool
is_volatile options = is_true (option_and_then as_bool (get (codes "volatile") options))

-- the id that a value is
abbrev pub id_of : Json → Option ℕ
id_of member = option_and_then read_whole (as_number member)

-- a question under an id
abbrev pub question : Option ℕ → Result Form CommandError
question None = Err BadId
question (Some id) = Ok (Question id)

-- an answer with an id
abbrev pub answer : Option ℕ → Result Form CommandError
answer None = Err BadId
answer (Some id) = Ok (Answer id)

-- by the two ids
abbrev pub form_by : (ask answer : Option Json) → (logged : Bool) → Result Form CommandError
form_by (Some ask) to logged = question (id_of ask)
form_by None (Some to) logged = answer (id_of to)
form_by None None logged = Ok (Event logged)

-- a question by `ask`, an answer by `answer`, and else an event
abbrev pub form_of : Json → Result Form CommandError
form_of options = form_by (get (codes "ask") options) (get (codes "answer") options) (not (is_volatile options))
