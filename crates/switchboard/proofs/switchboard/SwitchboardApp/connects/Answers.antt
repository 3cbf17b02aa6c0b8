use Rattle.std.proofs.Common.{sym, subst}
use Rattle.events.specs.App.{IsCleanVerdict}
use Rattle.switchboard.proofs.CleanLemmas.{if_ok, clean-digits}
use Rattle.switchboard.proofs.switchboard.SwitchboardApp.connects.Goals as goal

pub returns-clause-clean : goal.returns-clause-clean
returns-clause-clean c =
    let payload = c.args.payload.now in
    if_ok _ _ c.admit.result (λ verdict is. subst (IsCleanVerdict payload) (sym is) (clean-digits payload)) c.admit.ensures
