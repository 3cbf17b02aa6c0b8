use Rattle.std.proofs.Common.{◌≡◌, map}
use Rattle.loop_rules.specs.Packets.{carrying}
use Rattle.loop_rules.proofs.paces.carried.Given as goal

abbrev pub invariant-loop-packet : goal.invariant-loop-packet
invariant-loop-packet l = l.count ≡ carrying (map (λ packet. packet.now) l.yielded)
