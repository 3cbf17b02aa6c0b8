use Rattle.eio_wire.proofs.PayloadLemmas.{HasFault-once, no_fault}
use Rattle.eio_wire.proofs.packet.one_fault.Goals as goal

pub returns-clause-fault : goal.returns-clause-fault
returns-clause-fault c = HasFault-once

pub returns-clause-payload : goal.returns-clause-payload
returns-clause-payload c = no_fault
