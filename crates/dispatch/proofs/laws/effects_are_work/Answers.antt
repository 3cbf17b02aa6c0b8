use Rattle.dispatch.proofs.StepLemmas.{working-of}
use Rattle.dispatch.proofs.WorkLemmas.{runs-work, stopped-works}
use Rattle.dispatch.proofs.laws.effects_are_work.Goals as goal

pub returns-clause-done : goal.returns-clause-done
returns-clause-done c = λ who now f effects s t names clean stood was run.
    let both = runs-work who now f effects s t clean stood (working-of who.client f s.history s.done.clients was) run in (both.0, both.1.works names)

pub returns-clause-stopped : goal.returns-clause-stopped
returns-clause-stopped c = λ who now before f effects s stopped t names clean stood was stops.
    let both = stopped-works who now f before effects s stopped t clean stood (working-of who.client f s.history s.done.clients was) stops in (both.0, both.1.works names)
