use Rattle.epochs.proofs.LetInLaws.{event-lets, run-lets, everyone-let-in}
use Rattle.epochs.proofs.laws.everyone_was_let_in.Goals as goal

pub returns-clause-event : goal.returns-clause-event
returns-clause-event g c = λ now told event answer s t lines does.
    event-lets (g.A.App.policy c.args.app.now) told now event answer s t lines does

pub returns-clause-events : goal.returns-clause-events
returns-clause-events g c = λ told events answers s t lines run.
    run-lets (g.A.App.policy c.args.app.now) told events answers s t lines run

pub returns-clause-everyone : goal.returns-clause-everyone
returns-clause-everyone g c = λ config told events answers sealed h lines ids left run alike.
    everyone-let-in (g.A.App.policy c.args.app.now) told config events answers sealed h lines ids left run alike
