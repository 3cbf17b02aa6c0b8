use Rattle.std.proofs.Common.{rules, arith, refl, sym, ◌≡◌, ◌∙◌, true, length, min}
use Rattle.journal.specs.declared.step.What.TheVariants.{Took}
use Rattle.journal.specs.Membership.{is_open}
use Rattle.journal.specs.Outboxes.{waiting}
use Rattle.journal.proofs.CommandLemmas.{puts_took, some_if, some_open}
use Rattle.journal.proofs.CountsLemmas.{waits-within}
use Rattle.hub_state.proofs.state.State.takes.Goals as goal

pub returns-in_err-may_count-clause-refused : goal.returns-in_err-may_count-clause-refused
returns-in_err-may_count-clause-refused c =
    let told = sym c.in_ok-waits.ensures.ok_part ∙ c.waiting.ensures in
    let known : is_open c.args.self.now.base c.args.self.now.journal c.args.client ≡ true = some_open _ _ _ told in
    let within = waits-within c.args.self.now.base c.args.self.now.limits c.args.self.now.journal c.args.client c.facts.ensures.sound.clients_once known in
    let number = min c.args.most (length (waiting c.args.self.now.base c.args.self.now.limits c.args.self.now.journal c.args.client)) in
    let s = c.in_err-may_count.ensures (Took c.args.client c.args.most number) (puts_took _ _ _ c.args.client c.args.most number) refl (omega (arith, within)) in
    search (rules, s, known)

pub returns-clause-accepted : goal.returns-clause-accepted
returns-clause-accepted c =
    let told = sym c.in_ok-waits.ensures.ok_part ∙ c.waiting.ensures in
    let known : is_open c.args.self.now.base c.args.self.now.journal c.args.client ≡ true = some_open _ _ _ told in
    let waits = some_if _ _ _ told in
    let within = waits-within c.args.self.now.base c.args.self.now.limits c.args.self.now.journal c.args.client c.facts.ensures.sound.clients_once known in
    let s = c.in_ok-may_count.ensures (Took c.args.client c.args.most c.min.result) (puts_took _ _ _ c.args.client c.args.most c.min.result) refl (omega (arith, within, waits, c.min.ensures)) in
    search (rules, s, known)
