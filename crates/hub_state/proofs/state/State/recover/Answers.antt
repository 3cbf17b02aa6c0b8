use Rattle.std.proofs.Common.{◌≡◌, ◌∙◌, sym, ap, rules}
use Rattle.journal.specs.Plain.{PlainRecovery}
use Rattle.journal.specs.declared.step.What.TheVariants.{Recovered}
use Rattle.journal.specs.Journal.{moment_at}
use Rattle.journal.specs.Membership.{place_of}
use Rattle.journal.specs.Recovery.{recovery_of}
use Rattle.journal.specs.Refusals.{recovered_entries}
use Rattle.journal.proofs.RecoverRefusalLemmas.{does-by}
use Rattle.hub_state.proofs.RecoverLemmas.{is-return}
use Rattle.hub_state.proofs.state.State.recover.Goals as goal

pub bring_back-back-requires-clause-accepted : goal.bring_back-back-requires-clause-accepted
bring_back-back-requires-clause-accepted c =
    let found = c.in_ok-found.ensures in
    let place = place_of c.args.self.now.limits c.args.space.now in
    let at : c.max-at.result ≡ moment_at c.args.self.now c.args.now = search rules in
    let b = is-return c.args.self.now c.args.client place c.args.pid c.args.offset _ c.args.now _ _ found.session c.in_ok-recovery.ensures.recovery at found.accepted in
    b.accepted

pub bring_back-back-requires-clause-right : goal.bring_back-back-requires-clause-right
bring_back-back-requires-clause-right c =
    let found = c.in_ok-found.ensures in
    let place = place_of c.args.self.now.limits c.args.space.now in
    let at : c.max-at.result ≡ moment_at c.args.self.now c.args.now = search rules in
    let b = is-return c.args.self.now c.args.client place c.args.pid c.args.offset _ c.args.now _ _ found.session c.in_ok-recovery.ensures.recovery at found.accepted in
    b.right

pub bring_back-back-requires-clause-puts : goal.bring_back-back-requires-clause-puts
bring_back-back-requires-clause-puts c =
    let h = c.args.self.now in
    c.in_ok-recovery.ensures.puts ∙ ap (λ (r : PlainRecovery). recovered_entries h.base h.limits h.journal r.socket r.offset r.rooms) (sym c.in_ok-recovery.ensures.recovery)

pub returns-clause-does : goal.returns-clause-does
returns-clause-does c =
    let h = c.args.self.now in
    let found = c.in_ok-found.ensures in
    let place = place_of c.args.self.now.limits c.args.space.now in
    let at : c.max-at.result ≡ moment_at c.args.self.now c.args.now = search rules in
    let b = is-return h c.args.client place c.args.pid c.args.offset _ c.args.now _ _ found.session c.in_ok-recovery.ensures.recovery at found.accepted in
    does-by h _ c.args.now (recovery_of h.base h.limits h.journal c.args.client place c.args.pid c.args.offset) (Recovered c.in_ok-recovery.recovery) c.bring_back-back.result (ap (λ r. Recovered r) b.is) b.free
    c.bring_back-back.ensures.does.0 c.bring_back-back.ensures.does.1 c.bring_back-back.ensures.does.2
