use Rattle.guarded.proofs.CleanLemmas.{clean-ended}
use Rattle.guarded.proofs.guarded.ExpiringApp.ended.Goals as goal

pub returns-clause-clean : goal.returns-clause-clean
returns-clause-clean g c =
    clean-ended (λ effects. effects.items) c.args.who.now c.args.ending c.in_ok-told.told c.in_ok-inner.inner.items c.with_told.result c.in_ok-told.ensures c.in_ok-inner.ensures.clean c.with_told.ensures
