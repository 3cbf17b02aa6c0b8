use Rattle.std.proofs.Common.{◌≡◌, [], ◌∷◌, ◌++◌, drop}
use Rattle.recovery.specs.PacketLog.{newest}
use Rattle.recovery.proofs.packet_log.Latest.make_space.Given as goal

abbrev pub invariant-loop-entry : goal.invariant-loop-entry
invariant-loop-entry l =
    (l.self ≡ record l.fn.self { entries = drop l._entry l.fn.self.entries })
    × (newest l.fn.self.limit l.fn.self.bytes (l.fn.self.entries ++ l.logged ∷ [])
    ≡ newest l.fn.self.limit l.fn.self.bytes (drop l._entry l.fn.self.entries ++ l.logged ∷ []))
