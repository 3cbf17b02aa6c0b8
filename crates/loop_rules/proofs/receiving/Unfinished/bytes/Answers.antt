use Rattle.std.proofs.Common.{arith}
use Rattle.loop_rules.proofs.PartLemmas.{part_below}
use Rattle.loop_rules.proofs.receiving.Unfinished.bytes.Goals as goal

pub returns-then-self-eq0 : goal.returns-then-self-eq0
returns-then-self-eq0 c =
    omega (arith, c.if-self-eq0.true, c.args.self.now.all, part_below c.args.self.now.parts c.args.number)
