use Rattle.eio_wire.proofs.PayloadLemmas.{no_refusal}
use Rattle.eio_wire.proofs.packet.payloads_or_refusals.Goals as goal

pub returns : goal.returns
returns c = no_refusal
