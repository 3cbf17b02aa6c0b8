use Rattle.std.proofs.Common.{arith}
use Rattle.backend_watch.specs.Watching.{Lists}
use Rattle.backend_watch.proofs.FoldLemmas.{folds_more}
use Rattle.backend_watch.proofs.sight.Sight.list_all.Goals as goal

pub loop-client-preserved : goal.loop-client-preserved
loop-client-preserved c =
    let sight = c.args.self.now in
    folds_more (Lists sight.state.now sight.space.now sight.capacity sight.bytes) _ c.args.clients.now c.loop-client.client-index _ 0 _ (omega arith)
    c.loop-client.invariant c.in_ok-list.ensures.ok
