use Rattle.std.proofs.Common.{take}
use Rattle.backend_watch.specs.Watching.{ListsAll}
use Rattle.backend_watch.proofs.sight.Sight.list_all.Given as goal

abbrev pub invariant-loop-client : goal.invariant-loop-client
invariant-loop-client l =
    ListsAll l.self.state.now l.self.space.now l.self.capacity l.self.bytes l.fn.listed.items (take l.client-index l.clients) l.listed.items
