use Rattle.hub_state.specs.Changes.{refusal_now}
use Rattle.journal.proofs.CountsLemmas.{waits-within}
use Rattle.journal.specs.Membership.{is_open}
use Rattle.journal.specs.declared.step.What.TheVariants.{Closed}
use Rattle.std.proofs.Common.{rules, ◌≡◌, ◌∙◌, sym, arith, refl, true, None, nat_eq}
use Rattle.std.specs.HashMap.{get}
use Rattle.journal.specs.Fields.{held_sockets}
use Rattle.journal.proofs.CloseLemmas.{closed, can_close, can_forget, puts_closed}
use Rattle.hub_state.proofs.EndedLemmas.{hub-of, plus, some-ended, held-all}
use Rattle.hub_state.proofs.state.State.close.Goals as goal

pub invariant_of-self-2 : goal.invariant_of-self-2
invariant_of-self-2 c =
    let known : is_open c.args.self.now.base c.args.self.now.journal c.args.client ≡ true = sym c.if-not-is_open.ensures in
    let within = waits-within c.args.self.now.base c.args.self.now.limits c.args.self.now.journal c.args.client c.facts.ensures.sound.clients_once known in
    let s = c.in_ok-may_count.ensures (Closed c.args.client) (puts_closed _ _ _ c.args.client) refl (omega (arith, within)) in
    let free : refusal_now c.args.self.now (Closed c.args.client) ≡ None = search (rules, s, known) in
    let hub = c.self.inside in
    let listed = rw (← c.self.view_is) at c.in_ok-sockets.ensures.ok in
    let its : c.deref-2.result.now ≡ held_sockets (get nat_eq hub.clients c.args.client) =
    c.deref-2.ensures.value ∙ listed ∙ sym (held-all hub.base hub.limits (get nat_eq hub.clients) hub.records.steps.steps c.args.client c.self.invariant.0.clients c.self.invariant.2.of_open_clients) in
    let gone = rw its at c.forget_all.ensures in
    rw (c.add.ensures.steps, c.add.ensures.last, c.reserve.ensures.same, c.add.ensures.counts)
    (plus (closed _ _ c.args.client c.forget_client-discarded.result c.args.now _ _ _ _ _ _ _ _ _ _ _ _ _ (hub-of c.self.inside c.self.invariant) (rw (← c.self.view_is) at (sym free)) c.forget_client-discarded.ensures.discards c.forget_client-discarded.ensures.clients
    gone.0 gone.1 gone.2 c.kept_facts.ensures)
    (some-ended _ _ _ _ _ _ c.self.invariant.4 (rw (c.deref.ensures.value, listed, c.self.invariant.0.rooms_are) at c.in_ok-ended.ensures.ok) c.in_ok-append.ensures.items))

pub add-requires-clause-counted : goal.add-requires-clause-counted
add-requires-clause-counted c =
    let known : is_open c.args.self.now.base c.args.self.now.journal c.args.client ≡ true = sym c.if-not-is_open.ensures in
    let within = waits-within c.args.self.now.base c.args.self.now.limits c.args.self.now.journal c.args.client c.facts.ensures.sound.clients_once known in
    let s = c.in_ok-may_count.ensures (Closed c.args.client) (puts_closed _ _ _ c.args.client) refl (omega (arith, within)) in
    let free : refusal_now c.args.self.now (Closed c.args.client) ≡ None = search (rules, s, known) in
    can_close c.self.inside.base c.self.inside.limits (get nat_eq c.self.inside.clients) c.self.inside.records.steps.steps c.self.inside.records.counts c.self.invariant.3 c.self.invariant.2 c.self.invariant.0.clients
    c.args.client c.forget_client-discarded.result (rw (← c.self.view_is) at (sym free)) c.forget_client-discarded.ensures.discards

pub forget_all-requires : goal.forget_all-requires
forget_all-requires c =
    let known : is_open c.args.self.now.base c.args.self.now.journal c.args.client ≡ true = sym c.if-not-is_open.ensures in
    let within = waits-within c.args.self.now.base c.args.self.now.limits c.args.self.now.journal c.args.client c.facts.ensures.sound.clients_once known in
    let s = c.in_ok-may_count.ensures (Closed c.args.client) (puts_closed _ _ _ c.args.client) refl (omega (arith, within)) in
    let free : refusal_now c.args.self.now (Closed c.args.client) ≡ None = search (rules, s, known) in
    let hub = c.self.inside in
    let its : c.deref-2.result.now ≡ held_sockets (get nat_eq hub.clients c.args.client) =
    c.deref-2.ensures.value ∙ (rw (← c.self.view_is) at c.in_ok-sockets.ensures.ok)
    ∙ sym (held-all hub.base hub.limits (get nat_eq hub.clients) hub.records.steps.steps c.args.client c.self.invariant.0.clients c.self.invariant.2.of_open_clients) in
    rw its (can_forget _ _ c.args.client _ (get nat_eq c.self.inside.clients) _ _ _ _ _ _ _ (hub-of c.self.inside c.self.invariant) (rw (← c.self.view_is) at (sym free)))

pub returns-in_err-may_count : goal.returns-in_err-may_count
returns-in_err-may_count c =
    let known : is_open c.args.self.now.base c.args.self.now.journal c.args.client ≡ true = sym c.if-not-is_open.ensures in
    let within = waits-within c.args.self.now.base c.args.self.now.limits c.args.self.now.journal c.args.client c.facts.ensures.sound.clients_once known in
    let s = c.in_err-may_count.ensures (Closed c.args.client) (puts_closed _ _ _ c.args.client) refl (omega (arith, within)) in
    search (rules, s, known)

pub returns-in_err-sockets : goal.returns-in_err-sockets
returns-in_err-sockets c =
    let known : is_open c.args.self.now.base c.args.self.now.journal c.args.client ≡ true = sym c.if-not-is_open.ensures in
    let within = waits-within c.args.self.now.base c.args.self.now.limits c.args.self.now.journal c.args.client c.facts.ensures.sound.clients_once known in
    let s = c.in_ok-may_count.ensures (Closed c.args.client) (puts_closed _ _ _ c.args.client) refl (omega (arith, within)) in
    let free : refusal_now c.args.self.now (Closed c.args.client) ≡ None = search (rules, s, known) in
    search (rules, free)

pub returns-in_err-ended : goal.returns-in_err-ended
returns-in_err-ended c =
    let known : is_open c.args.self.now.base c.args.self.now.journal c.args.client ≡ true = sym c.if-not-is_open.ensures in
    let within = waits-within c.args.self.now.base c.args.self.now.limits c.args.self.now.journal c.args.client c.facts.ensures.sound.clients_once known in
    let s = c.in_ok-may_count.ensures (Closed c.args.client) (puts_closed _ _ _ c.args.client) refl (omega (arith, within)) in
    let free : refusal_now c.args.self.now (Closed c.args.client) ≡ None = search (rules, s, known) in
    search (rules, free)

pub returns-in_err-reserve : goal.returns-in_err-reserve
returns-in_err-reserve c =
    let known : is_open c.args.self.now.base c.args.self.now.journal c.args.client ≡ true = sym c.if-not-is_open.ensures in
    let within = waits-within c.args.self.now.base c.args.self.now.limits c.args.self.now.journal c.args.client c.facts.ensures.sound.clients_once known in
    let s = c.in_ok-may_count.ensures (Closed c.args.client) (puts_closed _ _ _ c.args.client) refl (omega (arith, within)) in
    let free : refusal_now c.args.self.now (Closed c.args.client) ≡ None = search (rules, s, known) in
    search (rules, free)

pub returns-in_err-append : goal.returns-in_err-append
returns-in_err-append c =
    let known : is_open c.args.self.now.base c.args.self.now.journal c.args.client ≡ true = sym c.if-not-is_open.ensures in
    let within = waits-within c.args.self.now.base c.args.self.now.limits c.args.self.now.journal c.args.client c.facts.ensures.sound.clients_once known in
    let s = c.in_ok-may_count.ensures (Closed c.args.client) (puts_closed _ _ _ c.args.client) refl (omega (arith, within)) in
    let free : refusal_now c.args.self.now (Closed c.args.client) ≡ None = search (rules, s, known) in
    search (rules, free)

pub returns : goal.returns
returns c =
    let known : is_open c.args.self.now.base c.args.self.now.journal c.args.client ≡ true = sym c.if-not-is_open.ensures in
    let within = waits-within c.args.self.now.base c.args.self.now.limits c.args.self.now.journal c.args.client c.facts.ensures.sound.clients_once known in
    let s = c.in_ok-may_count.ensures (Closed c.args.client) (puts_closed _ _ _ c.args.client) refl (omega (arith, within)) in
    let free : refusal_now c.args.self.now (Closed c.args.client) ≡ None = search (rules, s, known) in
    search (rules, free)
