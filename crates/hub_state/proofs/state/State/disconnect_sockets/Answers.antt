use Rattle.std.proofs.Common.{rules, ◌≡◌, ◌∙◌, length, refl, arith}
use Rattle.journal.specs.declared.step.What.TheVariants.{AllEnded}
use Rattle.journal.proofs.DismissalLemmas.{puts_dismissed}
use Rattle.hub_state.proofs.state.State.disconnect_sockets.Goals as goal

pub dismiss-requires-clause-unspent : goal.dismiss-requires-clause-unspent
dismiss-requires-clause-unspent c =
    let number : length c.dismissal.inside.told.items ≡ c.len.result = search rules in
    let s = c.in_ok-may_count.ensures (AllEnded c.in_ok-dismissal.dismissal) (puts_dismissed _ _ _ c.in_ok-dismissal.dismissal ∙ rw (← c.dismissal.view_is) number) refl (omega arith) in
    search (rules, s)

pub returns-in_err-may_count-clause-does : goal.returns-in_err-may_count-clause-does
returns-in_err-may_count-clause-does c =
    let number : length c.dismissal.inside.told.items ≡ c.len.result = search rules in
    let s = c.in_err-may_count.ensures (AllEnded c.in_ok-dismissal.dismissal) (puts_dismissed _ _ _ c.in_ok-dismissal.dismissal ∙ rw (← c.dismissal.view_is) number) refl (omega arith) in
    search (rules, s)

pub returns-clause-does : goal.returns-clause-does
returns-clause-does c =
    let number : length c.dismissal.inside.told.items ≡ c.len.result = search rules in
    let s = c.in_ok-may_count.ensures (AllEnded c.in_ok-dismissal.dismissal) (puts_dismissed _ _ _ c.in_ok-dismissal.dismissal ∙ rw (← c.dismissal.view_is) number) refl (omega arith) in
    search (rules, s)
