use Rattle.std.proofs.Common.{Global, Vec, ℕ}
use Rattle.loop_rules.proofs.RunLemmas.{same_lists}
use Rattle.loop_rules.proofs.roster.are_same.Goals as goal

pub returns : goal.returns
returns c = same_lists (λ (ids : Vec ℕ Global). ids.items) c.args.lists.now c.args.others.now c.eq.result c.eq.ensures
