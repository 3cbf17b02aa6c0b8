use Rattle.relay.proofs.CleanLemmas.{clean-decided}
use Rattle.relay.proofs.relay_app.RelayAppApp.decides.Goals as goal

pub returns-in-Event-clause-clean : goal.returns-in-Event-clause-clean
returns-in-Event-clause-clean c = clean-decided (λ effects. effects.items) c.args.who.now c.in-Event.message c.args.arrived.now c.decide.result c.in-Event.is c.decide.ensures
