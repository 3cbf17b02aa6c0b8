-- Why a server fails.
use Rattle.events.specs.declared.fault.CoreFault.{CoreFault}
use Rattle.events.specs.declared.fault.CoreFault.TheVariants as core
use Rattle.hub_gate.specs.declared.serve.ServeError.{ServeError}
use Rattle.hub_gate.specs.declared.serve.ServeError.TheVariants as serve
use Rattle.settings.specs.declared.settings.Setting.TheVariants.{Limits}
use Rattle.tcp_streams.specs.declared.fault.ServerFault.{ServerFault}
use Rattle.tcp_streams.specs.declared.fault.ServerFault.TheVariants as fault

-- where no core could be made: for want of memory, or since its limits allow none
abbrev pub fault_of_core : CoreFault → ServerFault
fault_of_core core.Memory = fault.Memory (record {})
fault_of_core _ = fault.BadSetting Limits

-- where not all could be served: for want of memory, or since not all was counted, or no worker began
abbrev pub fault_of_serving : ServeError → ServerFault
fault_of_serving serve.Memory = fault.Memory (record {})
fault_of_serving (serve.NotAll left) = fault.Books
fault_of_serving _ = fault.Starting
