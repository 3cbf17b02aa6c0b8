use Rattle.std.proofs.Common.{inl, inr}
use Rattle.eio_wire.proofs.PayloadLemmas.{whole_data_written}
use Rattle.dispatch.proofs.polling.payload_of.Goals as goal

pub unreachable-requires : goal.unreachable-requires
unreachable-requires c = elim (c.in-Err.ensures.err) [
  | inl short ↦ absurd (cc (rw short at (c.if-eq.ensures)))
  | inr refused ↦ whole_data_written c.args.packets.now c.in-Err.fault c.requires.some c.requires.whole refused
]
