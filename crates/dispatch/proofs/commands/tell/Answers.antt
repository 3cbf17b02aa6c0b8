use Rattle.std.proofs.Common.{refl}
use Rattle.dispatch.specs.Effects.{told_to}
use Rattle.dispatch.proofs.RefusalLemmas.{stops}
use Rattle.dispatch.proofs.StepLemmas.{seated-still}
use Rattle.dispatch.proofs.commands.tell.Goals as goal

pub returns-in-Ok-clause-seated : goal.returns-in-Ok-clause-seated
returns-in-Ok-clause-seated c = λ who seated. seated-still _ _ _ (told_to c.args.visit.client c.args.entry) c.in-Ok.ensures.1 who seated (λ l. refl) refl refl

pub returns-in-Err : goal.returns-in-Err
returns-in-Err c =
    record {
      does = (rw c.fault.ensures.named (stops c.args.state.now c.args.visit.moment (told_to c.args.visit.client c.args.entry) c.in-Err.error c.in-Err.ensures.0 c.fault.ensures.fault), c.in-Err.ensures.1);
      seated = λ who seated. rw c.in-Err.ensures.1 seated;
    }
