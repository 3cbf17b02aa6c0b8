-- Who got something of an event.
use Rattle.std.specs.Prelude.{ℕ, ◌==◌, Bool, List, [], length, Ok}
use Rattle.events.specs.Answer.{Answer}
use Rattle.events.specs.declared.outcome.Outcome.TheVariants as outcome

-- nobody is in the list
abbrev pub is_empty : List ℕ → Bool
is_empty ids = length ids == 0

-- the clients that each broadcast of the event got to, but for the event's own
abbrev pub lists_of : Answer → List (List ℕ)
lists_of (Ok (outcome.Done done)) = done.clients
lists_of (Ok (outcome.Lost saved done)) = done.clients
lists_of (Ok (outcome.Ticked ping done)) = done.clients
lists_of _ = []
