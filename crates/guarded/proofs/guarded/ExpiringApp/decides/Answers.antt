use Rattle.events.specs.App.{IsCleanArrival}
use Rattle.guarded.proofs.CleanLemmas.{clean-decided}
use Rattle.guarded.proofs.guarded.ExpiringApp.decides.Goals as goal

pub returns-clause-clean : goal.returns-clause-clean
returns-clause-clean g c =
    clean-decided (λ effects. effects.items) c.args.who.now c.args.arrived.now c.in_ok-told.told c.in_ok-decides.field-0.items (IsCleanArrival c.args.arrived.now) c.with_told.result c.in_ok-told.ensures c.in_ok-decides.ensures.clean c.with_told.ensures
