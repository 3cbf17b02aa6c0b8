use Rattle.std.proofs.Common.{ap}
use Rattle.hub_totals.specs.Pass.{PlainHub}
use Rattle.dispatch.proofs.HandedLemmas.{handed-fresh}
use Rattle.dispatch.proofs.ServerLemmas.{agree-fresh, clean-fresh}
use Rattle.dispatch.proofs.event_core.Core.new.Goals as goal

pub invariant_of-result : goal.invariant_of-result
invariant_of-result g c =
    let is = ap (λ (hub : PlainHub). hub.history) c.in-Ok.ensures.hub in
    (agree-fresh c.args.config _ _ is c.new-lines.ensures.empty, clean-fresh c.args.config _ c.in-Ok.ensures.config is)

pub returns-in-Ok-new-clause-handed : goal.returns-in-Ok-new-clause-handed
returns-in-Ok-new-clause-handed g c = λ d. handed-fresh c.args.config _ (ap (λ (hub : PlainHub). hub.history) c.in-Ok.ensures.hub) d
