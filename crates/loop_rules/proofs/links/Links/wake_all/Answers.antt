use Rattle.std.proofs.Common.{◌∙◌}
use Rattle.loop_rules.proofs.WokenLemmas.{woken_more, woken_on}
use Rattle.loop_rules.proofs.links.Links.wake_all.Goals as goal

pub loop-client-preserved : goal.loop-client-preserved
loop-client-preserved c =
    let e = c.wake.ensures in
    record {
      woken = woken_more c.args.clients.now c.loop-client.client-index c.wake.new.self
          (λ k below. woken_on _ c.loop-client.self.roster c.wake.new.self e.same e.kept (c.loop-client.invariant.woken k below)) e.woken;
      links = c.loop-client.invariant.links;
      takers = e.same ∙ c.loop-client.invariant.takers;
    }
