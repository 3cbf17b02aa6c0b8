use Rattle.std.proofs.Common.{◌≡◌, [], true, length, arith, not, filter, sym, ap, subst, ◌∙◌, Some, refl}
use Rattle.std.specs.Option.{IsSome}
use Rattle.std.specs.Prelude.{is_ok}
use Rattle.std.specs.Map.{values_of, remove_entry}
use Rattle.std.specs.Ordering.{nat_cmp}
use Rattle.std.specs.BTreeMap.{is_at}
use Rattle.recovery.specs.Expiry.{is_outdated}
use Rattle.recovery.specs.SavedTable.{TableContents, is_alive, session, removed, or_unknown}
use Rattle.recovery.proofs.SavedTableLemmas.{none_first, none_lost, all_alive, lost_session, alive_kept, session_found, values_removed, taken_fewer}
use Rattle.recovery.proofs.saved_table.SavedTable.take_first_outdated.Goals as goal

pub returns-in_default-clause-none_left : goal.returns-in_default-clause-none_left
returns-in_default-clause-none_left c =
    let none : c.self.inside.by_loss.keys ≡ [] = none_first c.self.inside.by_loss.keys (λ some. subst IsSome c.in_default.is (c.first.ensures.variant.1 some)) in
    subst (λ (v : TableContents). filter (is_alive c.args.keep c.args.now) v.sessions ≡ v.sessions) c.self.view_is
    (subst (λ es. filter (is_alive c.args.keep c.args.now) (values_of es) ≡ values_of es) (sym (none_lost c.self.inside.by_pid.entries c.self.inside.by_loss.keys c.self.inside.by_sid.keys c.self.invariant none)) refl)

pub returns-else-is_outdated-clause-none_left : goal.returns-else-is_outdated-clause-none_left
returns-else-is_outdated-clause-none_left c =
    rw c.if-is_outdated.false
    (subst (λ (v : TableContents). filter (is_alive c.args.keep c.args.now) v.sessions ≡ v.sessions) c.self.view_is
    (all_alive c.self.inside.by_pid.entries c.self.inside.by_loss.keys c.self.inside.by_sid.keys c.in-Some.first.now.0 c.in-Some.first.now.1 c.args.keep c.args.now c.self.invariant c.in-Some.ensures.least
    (sym c.is_outdated.ensures ∙ c.if-is_outdated.false)))

pub returns-then-is_outdated-clause-alive : goal.returns-then-is_outdated-clause-alive
returns-then-is_outdated-clause-alive c =
    let es = c.self.inside.by_pid.entries in
    let pid = c.in-Some.first.now.1 in
    let lost = lost_session es c.self.inside.by_loss.keys c.self.inside.by_sid.keys c.in-Some.first.now.0 pid c.self.invariant c.in-Some.ensures.member in
    let old : is_outdated c.args.keep c.args.now lost.0.lost_at ≡ true = ap (λ at. is_outdated c.args.keep c.args.now at) lost.1.1 ∙ sym c.is_outdated.ensures ∙ c.if-is_outdated.true in
    let alive = is_alive c.args.keep c.args.now in (
      ap (λ (v : TableContents). v.limit) c.remove.ensures.removed,
      ap (λ (v : TableContents). filter alive v.sessions) c.remove.ensures.removed
          ∙ ap (λ v. filter alive (removed v pid).sessions) (sym c.self.view_is)
          ∙ ap (filter alive) (sym (values_removed es pid c.self.invariant.keyed c.self.invariant.rises))
          ∙ alive_kept es (is_at (nat_cmp pid)) lost.0 c.args.keep c.args.now lost.1.0 (ap not old)
          ∙ ap (λ (v : TableContents). filter alive v.sessions) c.self.view_is,
    )

pub returns-then-is_outdated-clause-fewer : goal.returns-then-is_outdated-clause-fewer
returns-then-is_outdated-clause-fewer c =
    let es = c.self.inside.by_pid.entries in
    let pid = c.in-Some.first.now.1 in
    let lost = lost_session es c.self.inside.by_loss.keys c.self.inside.by_sid.keys c.in-Some.first.now.0 pid c.self.invariant c.in-Some.ensures.member in
    let found : session c.args.self.now pid ≡ Some lost.0 = ap (λ v. session v pid) (sym c.self.view_is) ∙ session_found es pid c.self.invariant.keyed ∙ lost.1.0 in
    let taken : c.is_ok.result ≡ true = c.is_ok.ensures.value ∙ ap is_ok (c.remove.ensures.answer ∙ ap or_unknown found) in
    let now : length c.remove.new.self.sessions ≡ length (values_of (remove_entry (is_at (nat_cmp pid)) es)) =
    ap (λ (v : TableContents). length v.sessions) c.remove.ensures.removed ∙ ap (λ v. length (removed v pid).sessions) (sym c.self.view_is)
    ∙ ap (λ xs. length xs) (sym (values_removed es pid c.self.invariant.keyed c.self.invariant.rises)) in
    let old : length (values_of es) ≡ length c.args.self.now.sessions = ap (λ (v : TableContents). length v.sessions) c.self.view_is in
    let fewer = taken_fewer es (is_at (nat_cmp pid)) lost.0 lost.1.0 in
    rw taken (omega (arith, fewer, now, old))

pub returns-then-is_outdated-clause-none_left : goal.returns-then-is_outdated-clause-none_left
returns-then-is_outdated-clause-none_left c =
    let es = c.self.inside.by_pid.entries in
    let pid = c.in-Some.first.now.1 in
    let lost = lost_session es c.self.inside.by_loss.keys c.self.inside.by_sid.keys c.in-Some.first.now.0 pid c.self.invariant c.in-Some.ensures.member in
    let found : session c.args.self.now pid ≡ Some lost.0 = ap (λ v. session v pid) (sym c.self.view_is) ∙ session_found es pid c.self.invariant.keyed ∙ lost.1.0 in
    let taken : c.is_ok.result ≡ true = c.is_ok.ensures.value ∙ ap is_ok (c.remove.ensures.answer ∙ ap or_unknown found) in
    rw taken tt
