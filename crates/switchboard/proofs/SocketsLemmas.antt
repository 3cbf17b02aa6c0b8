-- Rooms that were read, and those that are left.
use Rattle.std.proofs.Common.{ℕ, List, ◌++◌, Result, Ok, Err}
use Rattle.switchboard.specs.declared.command.CommandError.{CommandError}

-- rooms stand before others, if all these are rooms
abbrev pub behind : List (List ℕ) → Result (List (List ℕ)) CommandError → Result (List (List ℕ)) CommandError
behind front (Ok rest) = Ok (front ++ rest)
behind front (Err why) = Err why
