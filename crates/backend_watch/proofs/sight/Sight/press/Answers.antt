use Rattle.std.proofs.Common.{arith}
use Rattle.backend_watch.specs.Watching.{ListsAll}
use Rattle.backend_watch.proofs.FoldLemmas.{folds_more_mapped}
use Rattle.backend_watch.proofs.sight.Sight.press.Goals as goal

pub loop-clients-preserved : goal.loop-clients-preserved
loop-clients-preserved c =
    let sight = c.args.self.now in
    folds_more_mapped (λ ids. ids.items) (ListsAll sight.state.now sight.space.now sight.capacity sight.bytes) _ c.lists_of-lists.result.now c.loop-clients.clients-index _
    c.clients-item.result _ (omega arith) c.clients-item.is c.loop-clients.invariant (rw c.as_slice.ensures.value at c.in_ok-list_all.ensures.ok)
