use Rattle.std.proofs.Common.{arith}
use Rattle.loop_rules.proofs.PartLemmas.{removed_sum}
use Rattle.loop_rules.proofs.receiving.Unfinished.note.Goals as goal

pub invariant_of-self : goal.invariant_of-self
invariant_of-self c =
    let sum = removed_sum c.args.self.now.parts c.remove.new.self c.args.number c.remove.ensures.entries in
    record {
      all = omega (arith, sum, c.args.self.now.all, c.others-others.ensures);
      fits = omega (arith, c.args.self.now.fits, c.others-others.ensures);
    }
