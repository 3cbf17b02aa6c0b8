use Rattle.std.proofs.Common.{◌≡◌, sym, ap, ◌∙◌, not, ◌==◌, filter, None, Some}
use Rattle.std.specs.Map.{values_of}
use Rattle.recovery.specs.SavedTable.{PlainSaved, session, removed, or_unknown}
use Rattle.recovery.proofs.SavedTableLemmas.{session_found, values_removed, table_taken}
use Rattle.recovery.proofs.saved_table.SavedTable.remove.Goals as goal

pub returns-in_default-clause-answer : goal.returns-in_default-clause-answer
returns-in_default-clause-answer c =
    let found : session c.args.self.now c.args.pid ≡ None =
    ap (λ v. session v c.args.pid) (sym c.self.view_is) ∙ session_found c.self.inside.by_pid.entries c.args.pid c.self.invariant.keyed ∙ sym c.remove.ensures.value ∙ c.in_default.is in
    ap or_unknown (sym found)

pub returns-in_default-clause-removed : goal.returns-in_default-clause-removed
returns-in_default-clause-removed c =
    let sessions : values_of c.remove.new.self.entries ≡ filter (λ (s : PlainSaved). not (s.pid == c.args.pid)) (values_of c.self.inside.by_pid.entries) =
    ap values_of c.remove.ensures.entries ∙ values_removed c.self.inside.by_pid.entries c.args.pid c.self.invariant.keyed c.self.invariant.rises in
    (λ i. record { limit = c.self.inside.limit; sessions = sessions i })
    ∙ ap (λ v. removed v c.args.pid) c.self.view_is

pub invariant_of-self-2 : goal.invariant_of-self-2
invariant_of-self-2 c =
    table_taken c.self.inside.by_pid.entries c.remove.new.self.entries c.self.inside.by_loss.keys c.remove-2.new.self.keys c.self.inside.by_sid.keys c.remove-3.new.self.keys
    c.args.pid c.saved.inside.lost_at c.saved.inside.sid c.in-Some.saved (sym (ap (λ s. s.lost_at) c.saved.view_is)) (sym (ap (λ s. s.sid) c.saved.view_is))
    c.self.invariant (sym c.remove.ensures.value ∙ c.in-Some.is)
    c.remove.ensures.entries c.remove.ensures.ordered c.remove.ensures.updates.0 c.remove-2.ensures.updates.0 c.remove-3.ensures.updates.0

pub returns-clause-answer : goal.returns-clause-answer
returns-clause-answer c =
    let found : session c.args.self.now c.args.pid ≡ Some c.in-Some.saved =
    ap (λ v. session v c.args.pid) (sym c.self.view_is) ∙ session_found c.self.inside.by_pid.entries c.args.pid c.self.invariant.keyed ∙ sym c.remove.ensures.value ∙ c.in-Some.is in
    ap or_unknown (sym found)

pub returns-clause-removed : goal.returns-clause-removed
returns-clause-removed c =
    let sessions : values_of c.remove.new.self.entries ≡ filter (λ (s : PlainSaved). not (s.pid == c.args.pid)) (values_of c.self.inside.by_pid.entries) =
    ap values_of c.remove.ensures.entries ∙ values_removed c.self.inside.by_pid.entries c.args.pid c.self.invariant.keyed c.self.invariant.rises in
    (λ i. record { limit = c.self.inside.limit; sessions = sessions i })
    ∙ ap (λ v. removed v c.args.pid) c.self.view_is
