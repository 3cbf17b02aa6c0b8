use Rattle.eio_wire.proofs.PayloadLemmas.{fault_of-kind, HasFault-kind}
use Rattle.eio_wire.proofs.packet.faults_of_texts.Goals as goal

pub returns-clause-packet : goal.returns-clause-packet
returns-clause-packet c = fault_of-kind

pub returns-clause-payload : goal.returns-clause-payload
returns-clause-payload c = HasFault-kind
