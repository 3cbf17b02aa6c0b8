use Rattle.std.proofs.Common.{◌≡◌, ◌++◌, take, map, filter}
use Rattle.std.specs.Arc.{arc_value}
use Rattle.recovery.specs.PacketLog.{PlainLogged}
use Rattle.recovery.specs.Missed.{is_for}
use Rattle.journal.specs.Recovery.{gets}
use Rattle.hub_state.proofs.state.recover.add_missed.Given as goal

abbrev pub invariant-loop-logged : goal.invariant-loop-logged
invariant-loop-logged l =
    record {
      entries : map arc_value l.entries.items ≡ map arc_value l.fn.entries.items ++ gets l.space l.rooms (take l.logged-index l.broadcasts);
      offsets : l.offsets.items ≡ l.fn.offsets.items ++ map (λ (e : PlainLogged). e.offset) (filter (is_for l.space l.rooms) (take l.logged-index l.broadcasts));
    }
