use Rattle.std.proofs.Common.{sym, subst}
use Rattle.events.specs.App.{AllClean}
use Rattle.switchboard.proofs.CleanLemmas.{if_ok, clean-told_of_end}
use Rattle.switchboard.proofs.switchboard.SwitchboardApp.ended.Goals as goal

pub returns-clause-clean : goal.returns-clause-clean
returns-clause-clean c =
    if_ok _ _ c.tell_end.result (λ effects is. subst AllClean (sym is) (clean-told_of_end c.args.who.now c.args.rooms.now c.args.ending)) c.tell_end.ensures
