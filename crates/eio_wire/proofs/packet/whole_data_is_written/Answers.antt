use Rattle.eio_wire.proofs.PayloadLemmas.{whole_data_written}
use Rattle.eio_wire.proofs.packet.whole_data_is_written.Goals as goal

pub returns : goal.returns
returns c = whole_data_written
