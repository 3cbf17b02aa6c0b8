use Rattle.std.proofs.Common.{sym, subst}
use Rattle.loop_rules.specs.Rotas.{Waiting}
use Rattle.loop_rules.specs.Rosters.{Keeps}
use Rattle.loop_rules.proofs.RosterLemmas.{put_kept}
use Rattle.loop_rules.proofs.roster.Roster.wake.Goals as goal

pub returns-in-Some-clause-kept : goal.returns-in-Some-clause-kept
returns-in-Some-clause-kept c =
    subst (λ (w : Waiting). Keeps c.args.self.now.rota.looks w.looks) (sym c.wake.ensures.state)
    (put_kept c.args.self.now.rota c.in-Some.key)
