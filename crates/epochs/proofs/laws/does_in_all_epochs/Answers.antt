use Rattle.epochs.proofs.EpochSound.{stays-sound}
use Rattle.epochs.proofs.EpochAccounts.{first-alike, sealed-alike, does-in-one, does-in-present, account-more}
use Rattle.epochs.proofs.laws.does_in_all_epochs.Goals as goal

pub returns-clause-first : goal.returns-clause-first
returns-clause-first g c = λ h fine. first-alike h fine

pub returns-clause-sealed : goal.returns-clause-sealed
returns-clause-sealed g c = λ sealed g h epoch alike seals fine. sealed-alike sealed g h epoch alike seals fine

pub returns-clause-does : goal.returns-clause-does
returns-clause-does g c = λ now told event answer sealed h k old new ids left alike agree does.
    does-in-one stays-sound (g.A.App.policy c.args.app.now) now told event answer sealed old new ids left h k alike agree does

pub returns-clause-back : goal.returns-clause-back
returns-clause-back g c = λ now told event answer sealed h m old new ids left alike agree does.
    does-in-present stays-sound (g.A.App.policy c.args.app.now) now told event answer sealed old new ids left h m alike agree does

pub returns-clause-account : goal.returns-clause-account
returns-clause-account g c = λ now told event answer events answers s sealed h k old new left rest alike agree run does.
    account-more stays-sound (g.A.App.policy c.args.app.now) told now event answer events answers s sealed h k old new left rest alike agree run does
