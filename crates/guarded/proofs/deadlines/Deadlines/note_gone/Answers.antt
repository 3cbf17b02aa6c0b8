use Rattle.std.proofs.Common.{rules}
use Rattle.guarded.proofs.deadlines.Deadlines.note_gone.Goals as goal

pub returns : goal.returns
returns c = record { at = c.remove.ensures.updates.1; others = λ other apart. search (rules, c.remove.ensures.updates.2) }
