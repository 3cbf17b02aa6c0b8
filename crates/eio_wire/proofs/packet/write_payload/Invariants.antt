use Rattle.std.proofs.Common.{◌+◌, take, string_bytes}
use Rattle.eio_wire.specs.Payload.{Payload}
use Rattle.eio_wire.proofs.packet.write_payload.Given as goal

abbrev pub invariant-loop-packet : goal.invariant-loop-packet
invariant-loop-packet l = Payload (take (l.packet-index + 1) l.packets) (string_bytes l.text)
