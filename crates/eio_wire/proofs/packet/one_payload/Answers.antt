use Rattle.eio_wire.proofs.PayloadLemmas.{Payload-once, Payload-text}
use Rattle.eio_wire.proofs.packet.one_payload.Goals as goal

pub returns-clause-packets : goal.returns-clause-packets
returns-clause-packets c = Payload-once

pub returns-clause-text : goal.returns-clause-text
returns-clause-text c = Payload-text
