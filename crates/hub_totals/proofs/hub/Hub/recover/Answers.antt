use Rattle.hub_totals.proofs.hub.Hub.recover.Goals as goal

pub returns-in-Ok-clause-sid : goal.returns-in-Ok-clause-sid
returns-in-Ok-clause-sid g c = rw (← c.self.view_is) c.in-Ok.ensures.sid
