use Rattle.sio_wire.proofs.LanesLemmas.{special_lanes}
use Rattle.sio_wire.proofs.verbatim.special_among.Goals as goal

pub returns : goal.returns
returns c = special_lanes c.args.bytes c.fits-bytes.0
