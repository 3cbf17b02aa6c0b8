use Rattle.std.proofs.Common.{◌≡◌, map, vec_len}
use Rattle.std.specs.Vec.Iter.{into_iter_items}
use Rattle.hub_gate.specs.declared.worker.WorkerCounts.{WorkerCounts}
use Rattle.hub_gate.specs.Serving.{AreServed, WorksAs}
use Rattle.hub_gate.proofs.PoolLemmas.{reported, served, zip_join}
use Rattle.hub_gate.proofs.serve.serve_peers.Goals as goal

pub returns-clause-works : goal.returns-clause-works
returns-clause-works g c =
    reported c.settle.result c.gather-workers.result (λ s. s.report.workers)
    (λ v. (vec_len v ≡ c.args.workers) × AreServed g.P.Peer.gives g.P.Peer.hears (g.A.App.policy c.args.pool.now.app.now)
    g.I.IdSource.stream c.args.pool.now.turns c.args.workers c.args.peers.items c.args.ids.items v.items)
    c.settle.ensures.workers (
      search (c.gather-workers.ensures.len, c.in_ok-handles.ensures.len, c.in_ok-jobs.ensures.len, c.in-Ok.ensures.len),
      served (λ j. into_iter_items j.queue.peers) (λ j. j.ids)
          (λ ps own (counts : WorkerCounts). WorksAs g.P.Peer.gives g.P.Peer.hears (g.A.App.policy c.args.pool.now.app.now) c.args.pool.now.turns ps (g.I.IdSource.stream own) counts)
          c.in_ok-jobs.jobs.items (map (λ q. q.items) c.in-Ok.queues.items) c.args.ids.items c.gather-workers.result.items c.args.workers c.args.peers.items
          c.in_ok-jobs.ensures.queues c.in_ok-jobs.ensures.ids
          (zip_join (λ j h. (h.promise.job.value ≡ j) × (h.promise.app.value ≡ c.args.pool.now.app.now) × (h.promise.turns ≡ c.args.pool.now.turns))
          (λ h counts. (f : _) × WorksAs g.P.Peer.gives g.P.Peer.hears (g.A.App.policy h.promise.app.value) h.promise.turns
          (into_iter_items h.promise.job.value.queue.peers) (g.I.IdSource.stream h.promise.job.value.ids) f.counts × (f.counts ≡ counts))
          (λ j counts. WorksAs g.P.Peer.gives g.P.Peer.hears (g.A.App.policy c.args.pool.now.app.now) c.args.pool.now.turns
          (into_iter_items j.queue.peers) (g.I.IdSource.stream j.ids) counts)
          (λ j h counts one two. rw (one.0, one.1, one.2, two.2) at two.1)
          c.in_ok-jobs.jobs.items c.in_ok-handles.handles.items c.gather-workers.result.items c.in_ok-handles.ensures.begun c.gather-workers.ensures.kept)
          c.in-Ok.ensures.dealt,
    )
