use Rattle.std.proofs.Common.{map}
use Rattle.std.specs.List.{AllZip}
use Rattle.eio_wire.specs.Packet.{Eio}
use Rattle.eio_wire.proofs.packet.read_payload.Given as goal

abbrev pub invariant-loop-piece : goal.invariant-loop-piece
invariant-loop-piece l = AllZip Eio l.packets.items (map (λ piece. piece.now) l.yielded)
