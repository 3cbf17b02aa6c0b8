use Rattle.std.proofs.Common.{arith}
use Rattle.std.proofs.lemmas.Str.{lead_after_ascii}
use Rattle.sio_wire.proofs.header.after_first.Goals as goal

pub range_from-requires : goal.range_from-requires
range_from-requires c = λ _. (omega arith, λ more high. lead_after_ascii c.args.text.now 0 c.utf8.text c.requires.ascii more high)
