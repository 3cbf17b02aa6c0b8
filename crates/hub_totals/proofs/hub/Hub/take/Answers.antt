use Rattle.hub_totals.proofs.hub.Hub.take.Goals as goal

pub returns-in-Ok-clause-entries : goal.returns-in-Ok-clause-entries
returns-in-Ok-clause-entries g c = rw (← c.self.view_is) c.in-Ok.ensures.entries
