-- Which refusals of the hub end an event, and by which name.
use Rattle.journal.specs.declared.error.HubError.{HubError}
use Rattle.journal.specs.declared.error.HubError.TheVariants as hub
use Rattle.events.specs.declared.fault.CoreFault.{CoreFault}
use Rattle.events.specs.declared.fault.CoreFault.TheVariants.{Memory, IdTaken, TooManyClients, Spent, UnknownClient}

-- a refusal that ends the event
abbrev pub IsFault : HubError → Type 0
IsFault hub.Memory = Unit {0}
IsFault hub.IdTaken = Unit {0}
IsFault hub.TooManyClients = Unit {0}
IsFault hub.Spent = Unit {0}
IsFault _ = ⊥

-- the fault by its name; no other refusal ends an event
abbrev pub fault_of : HubError → CoreFault
fault_of hub.Memory = Memory
fault_of hub.IdTaken = IdTaken
fault_of hub.TooManyClients = TooManyClients
fault_of hub.Spent = Spent
fault_of _ = UnknownClient
