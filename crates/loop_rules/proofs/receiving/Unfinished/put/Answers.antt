use Rattle.std.proofs.Common.{arith}
use Rattle.loop_rules.proofs.PartLemmas.{put_sum}
use Rattle.loop_rules.proofs.receiving.Unfinished.put.Goals as goal

pub invariant_of-self : goal.invariant_of-self
invariant_of-self c =
    let sum = put_sum c.args.self.now.parts c.insert.new.self c.args.number c.args.part c.insert.result (cc) c.insert.ensures.old c.insert.ensures.entries in
    record {
      all = omega (arith, sum, c.args.self.now.all, c.others.ensures);
      fits = omega (arith, c.requires, c.others.ensures);
    }
