use Rattle.std.proofs.Common.{arith}
use Rattle.loop_rules.proofs.PartLemmas.{part_below}
use Rattle.loop_rules.proofs.receiving.Unfinished.others.Goals as goal

pub overflow_sub-result : goal.overflow_sub-result
overflow_sub-result c =
    omega (arith, c.args.self.now.all, part_below c.args.self.now.parts c.args.number, c.bytes.ensures)

pub returns : goal.returns
returns c = omega (arith, c.args.self.now.all, part_below c.args.self.now.parts c.args.number, c.bytes.ensures)
