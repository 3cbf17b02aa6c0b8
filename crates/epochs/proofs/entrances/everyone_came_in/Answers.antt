use Rattle.guarded.specs.Guarded.{pass_into}
use Rattle.epochs.proofs.EntranceLemmas.{admitted, everyone-in}
use Rattle.epochs.proofs.entrances.everyone_came_in.Goals as goal

pub returns : goal.returns
returns g c = λ config told events answers sealed h lines ids left run alike.
    let app = c.args.app.now in
    everyone-in app.entrance app.apart.items _ told config (λ moment space payload effects is.
    (admitted (pass_into app.entrance app.apart.items moment space payload) ((g.A.App.policy app.app).allows moment space payload) effects is).0)
    events answers sealed h lines ids left run alike
