use Rattle.std.proofs.Common.{◌≡◌}
use Rattle.guarded.specs.Guarded.{pass_into}
use Rattle.guarded.specs.Expiring.{Allows}
use Rattle.switchboard.specs.Switchboard.{verdict_of}
use Rattle.epochs.proofs.BackendLemmas.{backends-came}
use Rattle.epochs.proofs.EntranceLemmas.{admitted}
use Rattle.epochs.proofs.WardenLemmas.{let_in_inside}
use Rattle.epochs.proofs.backends.backends_came_by_token.Goals as goal

pub returns : goal.returns
returns c = λ config told events answers sealed h lines ids left there run alike.
    let app = c.args.app.now in
    let token = app.app.app.token in
    backends-came token _ told config there (λ moment space payload effects is.
    let_in_inside app.app.token token space payload effects
    (admitted (pass_into app.entrance app.apart.items moment space payload) (λ verdict. Allows app.app.token space payload (λ v. v ≡ verdict_of token space payload) verdict) effects is).1)
    events answers sealed h lines ids left run alike
