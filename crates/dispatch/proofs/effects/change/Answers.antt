use Rattle.std.proofs.Common.{ap, rules}
use Rattle.journal.specs.Journal.{History}
use Rattle.events.specs.Fault.{IsFault}
use Rattle.dispatch.specs.Effects.{scene}
use Rattle.dispatch.proofs.RefusalLemmas.{fails}
use Rattle.dispatch.proofs.effects.change.Goals as goal

pub returns-in-Err : goal.returns-in-Err
returns-in-Err g c = record {
  ok = tt;
  err = λ h k l now what does.
      let fault : IsFault c.in-Err.error = search rules in
      let f = fails c.args.answer c.in-Err.error c.in-Err.is fault h k now what does in
      (rw c.into.ensures f.0, ap (λ (k : History). scene k l c.args.tally.now) f.1);
}
