use Rattle.std.proofs.Common.{sym, ap, ◌∙◌}
use Rattle.recovery.specs.SavedTable.{session}
use Rattle.recovery.proofs.SavedTableLemmas.{session_found}
use Rattle.recovery.proofs.saved_table.SavedTable.look_up.Goals as goal

pub returns : goal.returns
returns c =
    c.get.ensures.value
    ∙ sym (session_found c.self.inside.by_pid.entries c.args.pid c.self.invariant.keyed)
    ∙ ap (λ v. session v c.args.pid) c.self.view_is
