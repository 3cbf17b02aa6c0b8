use Rattle.std.proofs.Common.{map, take}
use Rattle.std.specs.List.{FoldsTo}
use Rattle.backend_watch.specs.Watching.{ListsAll}
use Rattle.backend_watch.proofs.sight.Sight.press.Given as goal

abbrev pub invariant-loop-clients : goal.invariant-loop-clients
invariant-loop-clients l =
    FoldsTo (ListsAll l.self.state.now l.self.space.now l.self.capacity l.self.bytes) l.fn.listed.items
    (map (λ ids. ids.items) (take l.clients-index l.lists)) l.listed.items
