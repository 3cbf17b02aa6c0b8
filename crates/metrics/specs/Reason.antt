-- Why a server refuses something, and how that is called.
use Rattle.std.specs.Prelude.{ℕ, List, [], ◌∷◌, Option, Some, None, codes}
use Rattle.http_edge.specs.declared.error.EdgeError.{EdgeError}
use Rattle.http_edge.specs.declared.error.EdgeError.TheVariants as edge
use Rattle.http_edge.specs.declared.routes.Refusal.TheVariants as why
use Rattle.http_edge.specs.declared.routes.Target.{Target}
use Rattle.http_edge.specs.declared.routes.Target.TheVariants as target
use Rattle.events.specs.declared.fault.CoreFault.{CoreFault}
use Rattle.events.specs.declared.fault.CoreFault.TheVariants as fault
use Rattle.metrics.specs.declared.reason.Reason.{Reason}
use Rattle.metrics.specs.declared.reason.Reason.TheVariants.{NoPlace, Unreadable, NotFound, NotAllowed, UnknownClient, OutOfTurn, TooManyClients, OutOfMemory, BadEffect, Spent, ManyFromAddress}

abbrev pub label : Reason → List ℕ
label NoPlace = codes "no_place"
label Unreadable = codes "unreadable"
label NotFound = codes "not_found"
label NotAllowed = codes "not_allowed"
label UnknownClient = codes "unknown_client"
label OutOfTurn = codes "out_of_turn"
label TooManyClients = codes "too_many_clients"
label OutOfMemory = codes "out_of_memory"
label BadEffect = codes "bad_effect"
label Spent = codes "spent"
label ManyFromAddress = codes "many_from_address"

-- where no request was read, and somebody is there to be answered
abbrev pub of_edge : EdgeError → Option Reason
of_edge edge.Memory = Some OutOfMemory
of_edge edge.Device = None
of_edge edge.EarlyEnd = None
of_edge edge.TurnsSpent = None
of_edge _ = Some Unreadable

-- where a request asks for nothing that is served
abbrev pub of_target : Target → Option Reason
of_target target.NotFound = Some NotFound
of_target (target.Refuse why.UnknownSession) = Some UnknownClient
of_target (target.Refuse _) = Some NotAllowed
of_target _ = None

-- where an event was refused
abbrev pub of_core : CoreFault → Reason
of_core fault.Memory = OutOfMemory
of_core fault.UnknownClient = UnknownClient
of_core fault.WrongTransport = OutOfTurn
of_core fault.AlreadyProbing = OutOfTurn
of_core fault.AlreadyUpgraded = OutOfTurn
of_core fault.NotProbing = OutOfTurn
of_core fault.TooManyClients = TooManyClients
of_core fault.IdTaken = Spent
of_core fault.Spent = Spent
of_core fault.BadEffect = BadEffect
of_core fault.BadConfig = BadEffect

-- all of them, and the number of each
abbrev pub reasons : List Reason
reasons = NoPlace ∷ Unreadable ∷ NotFound ∷ NotAllowed ∷ UnknownClient ∷ OutOfTurn ∷ TooManyClients ∷ OutOfMemory ∷ BadEffect ∷ Spent ∷ ManyFromAddress ∷ []

abbrev pub number_of : Reason → ℕ
number_of NoPlace = 0
number_of Unreadable = 1
number_of NotFound = 2
number_of NotAllowed = 3
number_of UnknownClient = 4
number_of OutOfTurn = 5
number_of TooManyClients = 6
number_of OutOfMemory = 7
number_of BadEffect = 8
number_of Spent = 9
number_of ManyFromAddress = 10
