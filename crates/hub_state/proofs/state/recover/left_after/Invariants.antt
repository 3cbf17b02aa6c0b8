use Rattle.std.proofs.Common.{◌≡◌, ◌+◌, length, take}
use Rattle.journal.specs.Outboxes.{total_size}
use Rattle.journal.specs.Recovery.{gets}
use Rattle.hub_state.proofs.state.recover.left_after.Given as goal

abbrev pub invariant-loop-logged : goal.invariant-loop-logged
invariant-loop-logged l =
    record {
      places : l.left.0 + length (gets l.space l.rooms (take l.logged-index l.broadcasts)) ≡ l.places;
      bytes : l.left.1 + total_size (gets l.space l.rooms (take l.logged-index l.broadcasts)) ≡ l.bytes;
    }
