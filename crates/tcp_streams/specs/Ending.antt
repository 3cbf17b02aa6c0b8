-- How a client ended, as the answer to its event says.
use Rattle.std.specs.Prelude.{Option, None, Some, option_map, Ok, Err, if◌then◌else◌}
use Rattle.events.specs.declared.fault.CoreFault.{CoreFault}
use Rattle.events.specs.declared.fault.CoreFault.TheVariants as fault
use Rattle.events.specs.declared.outcome.Outcome.TheVariants as outcome
use Rattle.events.specs.Answer.{Answer}
use Rattle.tcp_streams.specs.declared.log.Ending.{Ending}
use Rattle.tcp_streams.specs.declared.log.Ending.TheVariants as ending

-- there was no such client
abbrev pub of_fault : CoreFault → Option Ending
of_fault fault.UnknownClient = Some ending.Gone
of_fault _ = None

-- a lost client is told apart by whether its sessions were saved; one that was closed, by the cause
abbrev pub ending_of : Answer → Option Ending
ending_of (Ok (outcome.Lost saved done)) = Some (if saved then ending.Saved else ending.Unsaved)
ending_of (Ok (outcome.Done done)) = option_map ending.Closed done.closed
ending_of (Ok (outcome.Ticked ping done)) = option_map ending.Closed done.closed
ending_of (Ok other) = None
ending_of (Err e) = of_fault e.fault
