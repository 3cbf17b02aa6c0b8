use Rattle.std.proofs.Common.{sym, subst}
use Rattle.events.specs.App.{AllClean}
use Rattle.switchboard.proofs.CleanLemmas.{if_ok, clean-told, clean-commanded}
use Rattle.switchboard.proofs.switchboard.SwitchboardApp.decides.Goals as goal

pub returns-then-ne-clause-clean : goal.returns-then-ne-clause-clean
returns-then-ne-clause-clean c =
    if_ok _ _ c.tell.result (λ effects is clean. subst AllClean (sym is) (clean-told c.args.who.now c.args.arrived.now clean)) c.tell.ensures

pub returns-in-Event-clause-clean : goal.returns-in-Event-clause-clean
returns-in-Event-clause-clean c =
    if_ok _ _ c.commanded.result (λ effects is clean. subst AllClean (sym is) (clean-commanded c.as_slice.result.now c.in-Event.message)) c.commanded.ensures
