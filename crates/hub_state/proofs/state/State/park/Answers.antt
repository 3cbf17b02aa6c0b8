use Rattle.hub_state.specs.Changes.{refusal_now}
use Rattle.hub_state.specs.Words.{when_open}
use Rattle.journal.proofs.CountsLemmas.{waits-within}
use Rattle.journal.proofs.CommandLemmas.{some_if, some_open}
use Rattle.journal.specs.Sessions.{sessions}
use Rattle.journal.specs.Membership.{is_open, sockets_of}
use Rattle.journal.specs.declared.step.What.TheVariants.{Parked}
use Rattle.std.proofs.lemmas.Bool.Decides.{nat_tests}
use Rattle.std.proofs.Common.{rules, ◌≡◌, ◌∙◌, sym, ◌-◌, Some, arith, refl, true, false, length, nat_lt, None, nat_eq}
use Rattle.std.specs.HashMap.{get}
use Rattle.journal.specs.Fields.{held_sockets}
use Rattle.journal.proofs.ParkLemmas.{parked, can_park, can_part, puts_parked}
use Rattle.hub_state.proofs.EndedLemmas.{hub-of, plus, some-ended, held-all}
use Rattle.hub_state.proofs.state.State.park.Goals as goal

pub invariant_of-self-2 : goal.invariant_of-self-2
invariant_of-self-2 c =
    let told : Some c.len-2.result ≡ when_open c.args.self.now c.args.client (length (sockets_of c.args.self.now.base c.args.self.now.journal c.args.client)) = search rules in
    let known : is_open c.args.self.now.base c.args.self.now.journal c.args.client ≡ true = some_open _ _ _ told in
    let many : c.len-2.result ≡ length (sockets_of c.args.self.now.base c.args.self.now.journal c.args.client) = some_if _ _ _ told in
    let free : c.saturating_sub-free.result ≡ c.args.self.now.limits.saved - length (sessions c.args.self.now.base c.args.self.now.limits c.args.self.now.journal) = search rules in
    let fits : nat_lt (c.args.self.now.limits.saved - length (sessions c.args.self.now.base c.args.self.now.limits c.args.self.now.journal)) (length (sockets_of c.args.self.now.base c.args.self.now.journal c.args.client)) ≡ false
    = grind (arith, nat_tests, c.if-free-len.false, many, free) in
    let within = waits-within c.args.self.now.base c.args.self.now.limits c.args.self.now.journal c.args.client c.facts.ensures.sound.clients_once known in
    let s = c.in_ok-may_count.ensures (Parked c.args.client) (puts_parked _ _ _ c.args.client) refl (omega (arith, within)) in
    let fine : refusal_now c.args.self.now (Parked c.args.client) ≡ None = rw (known, fits) s in
    let hub = c.self.inside in
    let listed = rw (← c.self.view_is) at c.in_ok-sockets.ensures.ok in
    let its = listed ∙ sym (held-all hub.base hub.limits (get nat_eq hub.clients) hub.records.steps.steps c.args.client c.self.invariant.0.clients c.self.invariant.2.of_open_clients) in
    let gone = rw (c.deref-3.ensures.value, its) at c.forget_all.ensures in
    let saves = rw (c.deref-2.ensures.value, its) at c.in_default-save_all.ensures.saved in
    rw (c.add.ensures.steps, c.add.ensures.last, c.reserve.ensures.same, c.add.ensures.counts)
    (plus (parked _ _ c.args.client c.forget_client-discarded.result c.args.now _ _ _ _ _ _ _ _ _ _ _ _ _ _ (hub-of c.self.inside c.self.invariant) (rw (← c.self.view_is) at (sym fine)) c.forget_client-discarded.ensures.discards c.forget_client-discarded.ensures.clients
    gone.0 gone.1 gone.2 c.kept_facts.ensures c.max-at.result (search rules) saves)
    (some-ended _ _ _ _ _ _ c.self.invariant.4 (rw (c.deref.ensures.value, listed, c.self.invariant.0.rooms_are) at c.in_ok-ended.ensures.ok) c.in_ok-append.ensures.items))

pub add-requires-clause-counted : goal.add-requires-clause-counted
add-requires-clause-counted c =
    let told : Some c.len-2.result ≡ when_open c.args.self.now c.args.client (length (sockets_of c.args.self.now.base c.args.self.now.journal c.args.client)) = search rules in
    let known : is_open c.args.self.now.base c.args.self.now.journal c.args.client ≡ true = some_open _ _ _ told in
    let many : c.len-2.result ≡ length (sockets_of c.args.self.now.base c.args.self.now.journal c.args.client) = some_if _ _ _ told in
    let free : c.saturating_sub-free.result ≡ c.args.self.now.limits.saved - length (sessions c.args.self.now.base c.args.self.now.limits c.args.self.now.journal) = search rules in
    let fits : nat_lt (c.args.self.now.limits.saved - length (sessions c.args.self.now.base c.args.self.now.limits c.args.self.now.journal)) (length (sockets_of c.args.self.now.base c.args.self.now.journal c.args.client)) ≡ false
    = grind (arith, nat_tests, c.if-free-len.false, many, free) in
    let within = waits-within c.args.self.now.base c.args.self.now.limits c.args.self.now.journal c.args.client c.facts.ensures.sound.clients_once known in
    let s = c.in_ok-may_count.ensures (Parked c.args.client) (puts_parked _ _ _ c.args.client) refl (omega (arith, within)) in
    let fine : refusal_now c.args.self.now (Parked c.args.client) ≡ None = rw (known, fits) s in
    can_park c.self.inside.base c.self.inside.limits (get nat_eq c.self.inside.clients) c.self.inside.records.steps.steps c.self.inside.records.counts c.self.invariant.3 c.self.invariant.2 c.self.invariant.0.clients
    c.args.client c.forget_client-discarded.result (rw (← c.self.view_is) at (sym fine)) c.forget_client-discarded.ensures.discards

pub forget_all-requires : goal.forget_all-requires
forget_all-requires c =
    let told : Some c.len-2.result ≡ when_open c.args.self.now c.args.client (length (sockets_of c.args.self.now.base c.args.self.now.journal c.args.client)) = search rules in
    let known : is_open c.args.self.now.base c.args.self.now.journal c.args.client ≡ true = some_open _ _ _ told in
    let many : c.len-2.result ≡ length (sockets_of c.args.self.now.base c.args.self.now.journal c.args.client) = some_if _ _ _ told in
    let free : c.saturating_sub-free.result ≡ c.args.self.now.limits.saved - length (sessions c.args.self.now.base c.args.self.now.limits c.args.self.now.journal) = search rules in
    let fits : nat_lt (c.args.self.now.limits.saved - length (sessions c.args.self.now.base c.args.self.now.limits c.args.self.now.journal)) (length (sockets_of c.args.self.now.base c.args.self.now.journal c.args.client)) ≡ false
    = grind (arith, nat_tests, c.if-free-len.false, many, free) in
    let within = waits-within c.args.self.now.base c.args.self.now.limits c.args.self.now.journal c.args.client c.facts.ensures.sound.clients_once known in
    let s = c.in_ok-may_count.ensures (Parked c.args.client) (puts_parked _ _ _ c.args.client) refl (omega (arith, within)) in
    let fine : refusal_now c.args.self.now (Parked c.args.client) ≡ None = rw (known, fits) s in
    let hub = c.self.inside in
    let its : c.deref-3.result.now ≡ held_sockets (get nat_eq hub.clients c.args.client) =
    c.deref-3.ensures.value ∙ (rw (← c.self.view_is) at c.in_ok-sockets.ensures.ok)
    ∙ sym (held-all hub.base hub.limits (get nat_eq hub.clients) hub.records.steps.steps c.args.client c.self.invariant.0.clients c.self.invariant.2.of_open_clients) in
    let fit = can_part _ _ c.args.client _ (get nat_eq c.self.inside.clients) _ _ _ _ _ _ _ (hub-of c.self.inside c.self.invariant) (rw (← c.self.view_is) at (sym fine)) in
    rw its (fit.0, fit.1)

pub save_all-requires : goal.save_all-requires
save_all-requires c =
    let told : Some c.len-2.result ≡ when_open c.args.self.now c.args.client (length (sockets_of c.args.self.now.base c.args.self.now.journal c.args.client)) = search rules in
    let known : is_open c.args.self.now.base c.args.self.now.journal c.args.client ≡ true = some_open _ _ _ told in
    let many : c.len-2.result ≡ length (sockets_of c.args.self.now.base c.args.self.now.journal c.args.client) = some_if _ _ _ told in
    let free : c.saturating_sub-free.result ≡ c.args.self.now.limits.saved - length (sessions c.args.self.now.base c.args.self.now.limits c.args.self.now.journal) = search rules in
    let fits : nat_lt (c.args.self.now.limits.saved - length (sessions c.args.self.now.base c.args.self.now.limits c.args.self.now.journal)) (length (sockets_of c.args.self.now.base c.args.self.now.journal c.args.client)) ≡ false
    = grind (arith, nat_tests, c.if-free-len.false, many, free) in
    let within = waits-within c.args.self.now.base c.args.self.now.limits c.args.self.now.journal c.args.client c.facts.ensures.sound.clients_once known in
    let s = c.in_ok-may_count.ensures (Parked c.args.client) (puts_parked _ _ _ c.args.client) refl (omega (arith, within)) in
    let fine : refusal_now c.args.self.now (Parked c.args.client) ≡ None = rw (known, fits) s in
    let hub = c.self.inside in
    let its : c.deref-2.result.now ≡ held_sockets (get nat_eq hub.clients c.args.client) =
    c.deref-2.ensures.value ∙ (rw (← c.self.view_is) at c.in_ok-sockets.ensures.ok)
    ∙ sym (held-all hub.base hub.limits (get nat_eq hub.clients) hub.records.steps.steps c.args.client c.self.invariant.0.clients c.self.invariant.2.of_open_clients) in
    rw its (can_part _ _ c.args.client _ (get nat_eq c.self.inside.clients) _ _ _ _ _ _ _ (hub-of c.self.inside c.self.invariant) (rw (← c.self.view_is) at (sym fine))).2

pub returns-in_err-may_count : goal.returns-in_err-may_count
returns-in_err-may_count c =
    let told : Some c.len-2.result ≡ when_open c.args.self.now c.args.client (length (sockets_of c.args.self.now.base c.args.self.now.journal c.args.client)) = search rules in
    let known : is_open c.args.self.now.base c.args.self.now.journal c.args.client ≡ true = some_open _ _ _ told in
    let many : c.len-2.result ≡ length (sockets_of c.args.self.now.base c.args.self.now.journal c.args.client) = some_if _ _ _ told in
    let free : c.saturating_sub-free.result ≡ c.args.self.now.limits.saved - length (sessions c.args.self.now.base c.args.self.now.limits c.args.self.now.journal) = search rules in
    let fits : nat_lt (c.args.self.now.limits.saved - length (sessions c.args.self.now.base c.args.self.now.limits c.args.self.now.journal)) (length (sockets_of c.args.self.now.base c.args.self.now.journal c.args.client)) ≡ false
    = grind (arith, nat_tests, c.if-free-len.false, many, free) in
    let within = waits-within c.args.self.now.base c.args.self.now.limits c.args.self.now.journal c.args.client c.facts.ensures.sound.clients_once known in
    let s = c.in_err-may_count.ensures (Parked c.args.client) (puts_parked _ _ _ c.args.client) refl (omega (arith, within)) in
    let refused : refusal_now c.args.self.now (Parked c.args.client) ≡ Some c.in_err-may_count.field-0.0 = rw (known, fits) s in
    search (rules, refused)

pub returns-in_err-sockets : goal.returns-in_err-sockets
returns-in_err-sockets c =
    let told : Some c.len-2.result ≡ when_open c.args.self.now c.args.client (length (sockets_of c.args.self.now.base c.args.self.now.journal c.args.client)) = search rules in
    let known : is_open c.args.self.now.base c.args.self.now.journal c.args.client ≡ true = some_open _ _ _ told in
    let many : c.len-2.result ≡ length (sockets_of c.args.self.now.base c.args.self.now.journal c.args.client) = some_if _ _ _ told in
    let free : c.saturating_sub-free.result ≡ c.args.self.now.limits.saved - length (sessions c.args.self.now.base c.args.self.now.limits c.args.self.now.journal) = search rules in
    let fits : nat_lt (c.args.self.now.limits.saved - length (sessions c.args.self.now.base c.args.self.now.limits c.args.self.now.journal)) (length (sockets_of c.args.self.now.base c.args.self.now.journal c.args.client)) ≡ false
    = grind (arith, nat_tests, c.if-free-len.false, many, free) in
    let within = waits-within c.args.self.now.base c.args.self.now.limits c.args.self.now.journal c.args.client c.facts.ensures.sound.clients_once known in
    let s = c.in_ok-may_count.ensures (Parked c.args.client) (puts_parked _ _ _ c.args.client) refl (omega (arith, within)) in
    let fine : refusal_now c.args.self.now (Parked c.args.client) ≡ None = rw (known, fits) s in
    search (rules, fine)

pub returns-in_err-ended : goal.returns-in_err-ended
returns-in_err-ended c =
    let told : Some c.len-2.result ≡ when_open c.args.self.now c.args.client (length (sockets_of c.args.self.now.base c.args.self.now.journal c.args.client)) = search rules in
    let known : is_open c.args.self.now.base c.args.self.now.journal c.args.client ≡ true = some_open _ _ _ told in
    let many : c.len-2.result ≡ length (sockets_of c.args.self.now.base c.args.self.now.journal c.args.client) = some_if _ _ _ told in
    let free : c.saturating_sub-free.result ≡ c.args.self.now.limits.saved - length (sessions c.args.self.now.base c.args.self.now.limits c.args.self.now.journal) = search rules in
    let fits : nat_lt (c.args.self.now.limits.saved - length (sessions c.args.self.now.base c.args.self.now.limits c.args.self.now.journal)) (length (sockets_of c.args.self.now.base c.args.self.now.journal c.args.client)) ≡ false
    = grind (arith, nat_tests, c.if-free-len.false, many, free) in
    let within = waits-within c.args.self.now.base c.args.self.now.limits c.args.self.now.journal c.args.client c.facts.ensures.sound.clients_once known in
    let s = c.in_ok-may_count.ensures (Parked c.args.client) (puts_parked _ _ _ c.args.client) refl (omega (arith, within)) in
    let fine : refusal_now c.args.self.now (Parked c.args.client) ≡ None = rw (known, fits) s in
    search (rules, fine)

pub returns-in_err-reserve : goal.returns-in_err-reserve
returns-in_err-reserve c =
    let told : Some c.len-2.result ≡ when_open c.args.self.now c.args.client (length (sockets_of c.args.self.now.base c.args.self.now.journal c.args.client)) = search rules in
    let known : is_open c.args.self.now.base c.args.self.now.journal c.args.client ≡ true = some_open _ _ _ told in
    let many : c.len-2.result ≡ length (sockets_of c.args.self.now.base c.args.self.now.journal c.args.client) = some_if _ _ _ told in
    let free : c.saturating_sub-free.result ≡ c.args.self.now.limits.saved - length (sessions c.args.self.now.base c.args.self.now.limits c.args.self.now.journal) = search rules in
    let fits : nat_lt (c.args.self.now.limits.saved - length (sessions c.args.self.now.base c.args.self.now.limits c.args.self.now.journal)) (length (sockets_of c.args.self.now.base c.args.self.now.journal c.args.client)) ≡ false
    = grind (arith, nat_tests, c.if-free-len.false, many, free) in
    let within = waits-within c.args.self.now.base c.args.self.now.limits c.args.self.now.journal c.args.client c.facts.ensures.sound.clients_once known in
    let s = c.in_ok-may_count.ensures (Parked c.args.client) (puts_parked _ _ _ c.args.client) refl (omega (arith, within)) in
    let fine : refusal_now c.args.self.now (Parked c.args.client) ≡ None = rw (known, fits) s in
    search (rules, fine)

pub returns-in_err-append : goal.returns-in_err-append
returns-in_err-append c =
    let told : Some c.len-2.result ≡ when_open c.args.self.now c.args.client (length (sockets_of c.args.self.now.base c.args.self.now.journal c.args.client)) = search rules in
    let known : is_open c.args.self.now.base c.args.self.now.journal c.args.client ≡ true = some_open _ _ _ told in
    let many : c.len-2.result ≡ length (sockets_of c.args.self.now.base c.args.self.now.journal c.args.client) = some_if _ _ _ told in
    let free : c.saturating_sub-free.result ≡ c.args.self.now.limits.saved - length (sessions c.args.self.now.base c.args.self.now.limits c.args.self.now.journal) = search rules in
    let fits : nat_lt (c.args.self.now.limits.saved - length (sessions c.args.self.now.base c.args.self.now.limits c.args.self.now.journal)) (length (sockets_of c.args.self.now.base c.args.self.now.journal c.args.client)) ≡ false
    = grind (arith, nat_tests, c.if-free-len.false, many, free) in
    let within = waits-within c.args.self.now.base c.args.self.now.limits c.args.self.now.journal c.args.client c.facts.ensures.sound.clients_once known in
    let s = c.in_ok-may_count.ensures (Parked c.args.client) (puts_parked _ _ _ c.args.client) refl (omega (arith, within)) in
    let fine : refusal_now c.args.self.now (Parked c.args.client) ≡ None = rw (known, fits) s in
    search (rules, fine)

pub returns-in-Err : goal.returns-in-Err
returns-in-Err c =
    let told : Some c.len-2.result ≡ when_open c.args.self.now c.args.client (length (sockets_of c.args.self.now.base c.args.self.now.journal c.args.client)) = search rules in
    let known : is_open c.args.self.now.base c.args.self.now.journal c.args.client ≡ true = some_open _ _ _ told in
    let many : c.len-2.result ≡ length (sockets_of c.args.self.now.base c.args.self.now.journal c.args.client) = some_if _ _ _ told in
    let free : c.saturating_sub-free.result ≡ c.args.self.now.limits.saved - length (sessions c.args.self.now.base c.args.self.now.limits c.args.self.now.journal) = search rules in
    let fits : nat_lt (c.args.self.now.limits.saved - length (sessions c.args.self.now.base c.args.self.now.limits c.args.self.now.journal)) (length (sockets_of c.args.self.now.base c.args.self.now.journal c.args.client)) ≡ false
    = grind (arith, nat_tests, c.if-free-len.false, many, free) in
    let within = waits-within c.args.self.now.base c.args.self.now.limits c.args.self.now.journal c.args.client c.facts.ensures.sound.clients_once known in
    let s = c.in_ok-may_count.ensures (Parked c.args.client) (puts_parked _ _ _ c.args.client) refl (omega (arith, within)) in
    let fine : refusal_now c.args.self.now (Parked c.args.client) ≡ None = rw (known, fits) s in
    search (rules, fine)

pub returns : goal.returns
returns c =
    let told : Some c.len-2.result ≡ when_open c.args.self.now c.args.client (length (sockets_of c.args.self.now.base c.args.self.now.journal c.args.client)) = search rules in
    let known : is_open c.args.self.now.base c.args.self.now.journal c.args.client ≡ true = some_open _ _ _ told in
    let many : c.len-2.result ≡ length (sockets_of c.args.self.now.base c.args.self.now.journal c.args.client) = some_if _ _ _ told in
    let free : c.saturating_sub-free.result ≡ c.args.self.now.limits.saved - length (sessions c.args.self.now.base c.args.self.now.limits c.args.self.now.journal) = search rules in
    let fits : nat_lt (c.args.self.now.limits.saved - length (sessions c.args.self.now.base c.args.self.now.limits c.args.self.now.journal)) (length (sockets_of c.args.self.now.base c.args.self.now.journal c.args.client)) ≡ false
    = grind (arith, nat_tests, c.if-free-len.false, many, free) in
    let within = waits-within c.args.self.now.base c.args.self.now.limits c.args.self.now.journal c.args.client c.facts.ensures.sound.clients_once known in
    let s = c.in_ok-may_count.ensures (Parked c.args.client) (puts_parked _ _ _ c.args.client) refl (omega (arith, within)) in
    let fine : refusal_now c.args.self.now (Parked c.args.client) ≡ None = rw (known, fits) s in
    search (rules, fine)
