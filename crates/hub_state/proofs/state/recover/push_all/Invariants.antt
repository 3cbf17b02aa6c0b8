use Rattle.std.proofs.Common.{◌≡◌, ◌++◌, length, map}
use Rattle.std.specs.Arc.{arc_value}
use Rattle.std.specs.Vec.Iter.{into_iter_items, into_iter_len}
use Rattle.hub_state.proofs.state.recover.push_all.Given as goal

abbrev pub invariant-loop-entry : goal.invariant-loop-entry
invariant-loop-entry l = (l.yielded ++ into_iter_items l.entry-iterator ≡ into_iter_items l.initial.entry-iterator)
    × (l.outbox ≡ record l.fn.outbox { waiting = l.fn.outbox.waiting ++ map arc_value l.yielded })
    × (into_iter_len l.entry-iterator ≡ length (into_iter_items l.entry-iterator))
    × (l.waited ≡ length l.fn.outbox.waiting)
