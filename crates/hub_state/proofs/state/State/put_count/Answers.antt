use Rattle.std.proofs.Common.{◌≡◌, ◌∙◌, ◌+◌, ◌^◌, ◌<◌, ap, arith}
use Rattle.journal.specs.Outboxes.{answer, waiting}
use Rattle.journal.proofs.RecoverLemmas.{none-so}
use Rattle.journal.proofs.RecoverRefusalLemmas.{lacks-answer, lacks-missed, has-places, how-many}
use Rattle.hub_state.specs.Recovering.{socket_again, gets_back}
use Rattle.hub_state.proofs.RecoverLemmas.{puts-back}
use Rattle.hub_state.proofs.state.State.put_count.Goals as goal

pub returns-in_err-free-clause-none : goal.returns-in_err-free-clause-none
returns-in_err-free-clause-none c =
    let h = c.args.self.now in
    let k = socket_again c.args.client c.args.found.session.now in
    let space : c.from.result ≡ k.space = c.from.ensures ∙ ap (λ s. s.space) c.session.view_is in
    let puts = puts-back h.base h.limits h.journal c.args.client c.args.found c.args.offset c.facts.ensures.sound.offsets_rise c.requires.later in
    none-so _ _ (lacks-answer h.base h.limits (waiting h.base h.limits h.journal c.args.client) _ (gets_back c.args.found) (answer h.limits k) puts (rw space at c.in_err-free.ensures.none k.client k.sid k.pid))

pub returns-in_err-missed-clause-none : goal.returns-in_err-missed-clause-none
returns-in_err-missed-clause-none c =
    let h = c.args.self.now in
    let k = socket_again c.args.client c.args.found.session.now in
    let space : c.from.result ≡ k.space = c.from.ensures ∙ ap (λ s. s.space) c.session.view_is in
    let puts = puts-back h.base h.limits h.journal c.args.client c.args.found c.args.offset c.facts.ensures.sound.offsets_rise c.requires.later in
    none-so _ _ (lacks-missed h.base h.limits (waiting h.base h.limits h.journal c.args.client) _ (gets_back c.args.found) (answer h.limits k) puts c.in_ok-free.free.0 c.in_ok-free.free.1 c.in_ok-free.ensures.places
    (rw space at c.in_ok-free.ensures.bytes k.client k.sid k.pid) c.in_err-missed.ensures.none)

pub overflow_add-result : goal.overflow_add-result
overflow_add-result c =
    let few = c.in_ok-missed.ensures.places in
    let small = c.in_ok-free.ensures.small in
    let fits : c.in_ok-missed.missed + 1 < 2 ^ 64 = omega (arith, few, small) in
    omega arith

pub returns-clause-count : goal.returns-clause-count
returns-clause-count c =
    let h = c.args.self.now in
    let k = socket_again c.args.client c.args.found.session.now in
    let puts = puts-back h.base h.limits h.journal c.args.client c.args.found c.args.offset c.facts.ensures.sound.offsets_rise c.requires.later in
    how-many h.base h.limits (waiting h.base h.limits h.journal c.args.client) _ (gets_back c.args.found) (answer h.limits k) puts c.in_ok-missed.missed c.in_ok-missed.ensures.number

pub returns-clause-place : goal.returns-clause-place
returns-clause-place c =
    let h = c.args.self.now in
    let k = socket_again c.args.client c.args.found.session.now in
    let space : c.from.result ≡ k.space = c.from.ensures ∙ ap (λ s. s.space) c.session.view_is in
    let puts = puts-back h.base h.limits h.journal c.args.client c.args.found c.args.offset c.facts.ensures.sound.offsets_rise c.requires.later in
    has-places h.base h.limits (waiting h.base h.limits h.journal c.args.client) _ (gets_back c.args.found) (answer h.limits k) puts c.in_ok-free.free.0 c.in_ok-free.free.1 c.in_ok-missed.missed c.in_ok-free.ensures.places
    (rw space at c.in_ok-free.ensures.bytes k.client k.sid k.pid) c.in_ok-missed.ensures.number c.in_ok-missed.ensures.places c.in_ok-missed.ensures.bytes
