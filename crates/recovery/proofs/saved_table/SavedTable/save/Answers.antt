use Rattle.std.proofs.Common.{◌≡◌, ◌==◌, ℕ, List, sym, ap, subst, refl, ◌∙◌, Option, Some, None, is_some, false, if◌then◌else◌}
use Rattle.std.specs.Ordering.{nat_cmp}
use Rattle.std.specs.Map.{lookup, values_of, remove_entry}
use Rattle.std.specs.BTreeMap.{is_at, insert_entry}
use Rattle.recovery.specs.SavedTable.{TableContents, PlainSaved, IsKeyed, session, with_session, saved}
use Rattle.recovery.proofs.SavedTableLemmas.{session_found, values_inserted, same_key, table_put, table_back, index_same, index_put_back, put_back}
use Rattle.recovery.proofs.saved_table.SavedTable.save.Goals as goal

-- the private id was free
abbrev Free : (entries : List (ℕ × PlainSaved)) (pid : ℕ) → Type 0
Free entries pid = lookup (is_at (nat_cmp pid)) entries ≡ None

abbrev table_of : ℕ → List PlainSaved → TableContents
table_of limit sessions = record { limit = limit; sessions = sessions }

none : (o : Option PlainSaved) → is_some o ≡ false → o ≡ None
none None is = refl
none (Some s) is = absurd (cc (is))

free : (now : TableContents) (limit : ℕ) (es : List (ℕ × PlainSaved)) (pid : ℕ) → IsKeyed es → table_of limit (values_of es) ≡ now → is_some (session now pid) ≡ false → Free es pid
free now limit es pid keyed is fresh = sym (session_found es pid keyed) ∙ ap (λ v. session v pid) is ∙ none _ fresh

-- the session is taken out again
taken_back : (old mid new : List (ℕ × PlainSaved)) (pid : ℕ) (s : PlainSaved) → Free old pid → mid ≡ insert_entry nat_cmp old pid s → new ≡ remove_entry (is_at (nat_cmp pid)) mid → new ≡ old
taken_back old mid new pid s free put removed = removed ∙ ap (remove_entry (is_at (nat_cmp pid))) put ∙ put_back old pid s free

pub invariant_of-self-in-Ok-insert : goal.invariant_of-self-in-Ok-insert
invariant_of-self-in-Ok-insert c =
    let es = c.self.inside.by_pid.entries in
    table_put es c.insert.new.self.entries c.self.inside.by_loss.keys c.insert-2.new.self.keys c.self.inside.by_sid.keys c.insert-3.new.self.keys
    c.args.saved c.saved.inside.pid c.saved.inside.lost_at c.saved.inside.sid
    (sym (ap (λ s. s.pid) c.saved.view_is)) (sym (ap (λ s. s.lost_at) c.saved.view_is)) (sym (ap (λ s. s.sid) c.saved.view_is)) c.self.invariant
    (free c.args.self.now c.self.inside.limit es c.saved.inside.pid c.self.invariant.keyed c.self.view_is (sym c.has_pid.ensures ∙ c.if-has_pid.false))
    c.in_ok-insert.ensures.entries c.insert.ensures.ordered c.in_ok-insert.ensures.updates.0 c.in-Ok.ensures.updates.0 c.in-Ok-insert.ensures.updates.0

pub invariant_of-self-in_default : goal.invariant_of-self-in_default
invariant_of-self-in_default c =
    let es = c.self.inside.by_pid.entries in
    let absent = free c.args.self.now c.self.inside.limit es c.saved.inside.pid c.self.invariant.keyed c.self.view_is (sym c.has_pid.ensures ∙ c.if-has_pid.false) in
    table_back es c.remove.new.self.entries c.self.inside.by_loss.keys c.insert-2.new.self.keys c.self.inside.by_sid.keys c.self.inside.by_sid.keys c.self.invariant
    (taken_back es c.insert.new.self.entries c.remove.new.self.entries c.saved.inside.pid c.args.saved absent c.in_ok-insert.ensures.entries c.remove.ensures.entries)
    (index_same (λ s. s.lost_at) es c.self.inside.by_loss.keys c.insert-2.new.self.keys c.self.invariant.losses c.in_default.ensures.err)
    c.self.invariant.sids

pub returns-in_default-clause-unchanged : goal.returns-in_default-clause-unchanged
returns-in_default-clause-unchanged c =
    let es = c.self.inside.by_pid.entries in
    let absent = free c.args.self.now c.self.inside.limit es c.saved.inside.pid c.self.invariant.keyed c.self.view_is (sym c.has_pid.ensures ∙ c.if-has_pid.false) in
    let same = taken_back es c.insert.new.self.entries c.remove.new.self.entries c.saved.inside.pid c.args.saved absent c.in_ok-insert.ensures.entries c.remove.ensures.entries in
    ap (λ es. table_of c.self.inside.limit (values_of es)) same ∙ c.self.view_is

pub invariant_of-self-in_default-insert : goal.invariant_of-self-in_default-insert
invariant_of-self-in_default-insert c =
    let es = c.self.inside.by_pid.entries in
    let absent = free c.args.self.now c.self.inside.limit es c.saved.inside.pid c.self.invariant.keyed c.self.view_is (sym c.has_pid.ensures ∙ c.if-has_pid.false) in
    table_back es c.remove-in_default-insert-2.new.self.entries c.self.inside.by_loss.keys c.remove-in_default-insert.new.self.keys c.self.inside.by_sid.keys c.insert-3.new.self.keys c.self.invariant
    (taken_back es c.insert.new.self.entries c.remove-in_default-insert-2.new.self.entries c.saved.inside.pid c.args.saved absent c.in_ok-insert.ensures.entries c.remove-in_default-insert-2.ensures.entries)
    (index_put_back (λ s. s.lost_at) es c.self.inside.by_loss.keys c.insert-2.new.self.keys c.remove-in_default-insert.new.self.keys c.saved.inside.pid c.saved.inside.lost_at
    c.self.invariant.losses absent c.in-Ok.ensures.updates.0 c.remove-in_default-insert.ensures.updates.0)
    (index_same (λ s. s.sid) es c.self.inside.by_sid.keys c.insert-3.new.self.keys c.self.invariant.sids c.in_default-insert.ensures.err)

pub returns-in_default-insert-clause-unchanged : goal.returns-in_default-insert-clause-unchanged
returns-in_default-insert-clause-unchanged c =
    let es = c.self.inside.by_pid.entries in
    let absent = free c.args.self.now c.self.inside.limit es c.saved.inside.pid c.self.invariant.keyed c.self.view_is (sym c.has_pid.ensures ∙ c.if-has_pid.false) in
    let same = taken_back es c.insert.new.self.entries c.remove-in_default-insert-2.new.self.entries c.saved.inside.pid c.args.saved absent c.in_ok-insert.ensures.entries c.remove-in_default-insert-2.ensures.entries in
    ap (λ es. table_of c.self.inside.limit (values_of es)) same ∙ c.self.view_is

pub returns-clause-saved : goal.returns-clause-saved
returns-clause-saved c =
    let es = c.self.inside.by_pid.entries in
    let absent = free c.args.self.now c.self.inside.limit es c.saved.inside.pid c.self.invariant.keyed c.self.view_is (sym c.has_pid.ensures ∙ c.if-has_pid.false) in
    let put = subst (λ (s : PlainSaved). c.insert.new.self.entries ≡ insert_entry nat_cmp es s.pid c.args.saved) c.saved.view_is c.in_ok-insert.ensures.entries in
    let sessions : values_of c.insert.new.self.entries ≡ with_session c.args.saved (values_of es) =
    ap values_of put ∙ values_inserted es c.args.saved c.self.invariant.keyed (subst (λ (s : PlainSaved). Free es s.pid) c.saved.view_is absent) in
    (λ i. table_of c.self.inside.limit (sessions i))
    ∙ ap (λ v. saved v c.args.saved) c.self.view_is

pub returns-clause-map : goal.returns-clause-map
returns-clause-map c pid =
    let es = c.self.inside.by_pid.entries in
    session_found c.insert.new.self.entries pid (invariant_of-self-in-Ok-insert c).keyed
    ∙ (c.in_ok-insert.ensures.updates.0 pid
    ∙ (λ i. if same_key c.saved.inside.pid pid i then Some c.args.saved else sym (session_found es pid c.self.invariant.keyed) i))
    ∙ (λ i. if (c.saved.view_is i).pid == pid then Some c.args.saved else session (c.self.view_is i) pid)
