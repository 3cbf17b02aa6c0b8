use Rattle.eio_wire.proofs.PacketLemmas.{Eio-text}
use Rattle.eio_wire.proofs.packet.one_text.Goals as goal

pub returns : goal.returns
returns c = Eio-text
