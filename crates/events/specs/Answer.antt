-- How an event is answered.
use Rattle.std.specs.Prelude.{Result}
use Rattle.events.specs.declared.fault.CoreError.{CoreError}
use Rattle.events.specs.declared.fault.CoreFault.{CoreFault}
use Rattle.events.specs.declared.outcome.Outcome.{Outcome}

-- how an event is answered
abbrev pub Answer : Type 0
Answer = Result Outcome CoreError

-- nothing of the event was done
abbrev pub at_once : CoreFault → CoreError
at_once fault = record { fault = fault; packets = 0; effects = 0 }
