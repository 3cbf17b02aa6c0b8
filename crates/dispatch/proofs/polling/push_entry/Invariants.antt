use Rattle.std.proofs.Common.{◌≡◌, ◌++◌, map, take}
use Rattle.eio_wire.specs.declared.packet.Packet.TheVariants.{Binary}
use Rattle.dispatch.proofs.polling.push_entry.Given as goal

abbrev pub invariant-loop-attachment : goal.invariant-loop-attachment
invariant-loop-attachment l = record {
  so_far : l.packets.items ≡ l.initial.packets.items ++ map Binary (take l.attachment-index l.attachment-items);
}
