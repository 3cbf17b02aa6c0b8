use Rattle.hub_totals.proofs.hub.Hub.sweep.Goals as goal

pub returns-in-Ok-clause-counts : goal.returns-in-Ok-clause-counts
returns-in-Ok-clause-counts g c = rw (← c.self.view_is) c.in-Ok.ensures.counts
