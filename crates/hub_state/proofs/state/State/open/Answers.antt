use Rattle.hub_state.specs.Changes.{refusal_now}
use Rattle.journal.proofs.CountsLemmas.{clients_counted}
use Rattle.journal.specs.Membership.{open_clients}
use Rattle.journal.specs.declared.step.What.TheVariants.{Opened}
use Rattle.std.proofs.Common.{rules, refl, ◌≡◌, ◌==◌, ℕ, Some, if◌then◌else◌, arith, ◌∙◌, length, None, sym, nat_eq}
use Rattle.std.specs.HashMap.{get}
use Rattle.journal.proofs.CommandLemmas.{opened, can_open, puts_opened}
use Rattle.hub_state.proofs.EndedLemmas.{hub-of, none-ended, plus}
use Rattle.hub_state.proofs.state.State.open.Goals as goal

pub invariant_of-self-2 : goal.invariant_of-self-2
invariant_of-self-2 c =
    let many : c.len.result ≡ length (open_clients c.args.self.now.base c.args.self.now.journal) =
    rw (← c.self.view_is) (c.len.ensures.len ∙ clients_counted _ _ _ c.self.inside.clients c.len.ensures.unique c.self.invariant.0.clients c.self.invariant.2.clients_once) in
    let s = c.in_ok-may_count.ensures (Opened c.args.client) (puts_opened _ _ _ c.args.client) refl (omega arith) in
    let free : refusal_now c.args.self.now (Opened c.args.client) ≡ None = search (rules, s, many) in
    let hub = hub-of c.self.inside c.self.invariant in
    let new = rw c.config-2.ensures at c.in_ok-opened.ensures.ok in
    let put : (q : ℕ) → get nat_eq c.insert.new.self q ≡ (if c.args.client == q then Some c.in_ok-opened.opened else get nat_eq c.self.inside.clients q) = λ q. search rules in
    rw (c.add.ensures.steps, c.add.ensures.last, c.reserve.ensures.same, c.add.ensures.counts)
    (plus (opened _ _ c.args.client c.args.now _ _ _ _ _ _ _ _ _ _ hub (rw (← c.self.view_is) at (sym free)) _ new put)
    (none-ended _ _ _ _ c.self.invariant.4 refl))

pub add-requires-clause-counted : goal.add-requires-clause-counted
add-requires-clause-counted c =
    let many : c.len.result ≡ length (open_clients c.args.self.now.base c.args.self.now.journal) =
    rw (← c.self.view_is) (c.len.ensures.len ∙ clients_counted _ _ _ c.self.inside.clients c.len.ensures.unique c.self.invariant.0.clients c.self.invariant.2.clients_once) in
    let s = c.in_ok-may_count.ensures (Opened c.args.client) (puts_opened _ _ _ c.args.client) refl (omega arith) in
    let free : refusal_now c.args.self.now (Opened c.args.client) ≡ None = search (rules, s, many) in
    can_open _ _ _ _ c.self.invariant.3 c.self.invariant.2 c.args.client (rw (← c.self.view_is) at (sym free))

pub returns-then-config-len : goal.returns-then-config-len
returns-then-config-len c =
    let many : c.len.result ≡ length (open_clients c.args.self.now.base c.args.self.now.journal) =
    rw (← c.self.view_is) (c.len.ensures.len ∙ clients_counted _ _ _ c.self.inside.clients c.len.ensures.unique c.self.invariant.0.clients c.self.invariant.2.clients_once) in
    search (rules, many)

pub returns-in_err-may_count : goal.returns-in_err-may_count
returns-in_err-may_count c =
    let many : c.len.result ≡ length (open_clients c.args.self.now.base c.args.self.now.journal) =
    rw (← c.self.view_is) (c.len.ensures.len ∙ clients_counted _ _ _ c.self.inside.clients c.len.ensures.unique c.self.invariant.0.clients c.self.invariant.2.clients_once) in
    let s = c.in_err-may_count.ensures (Opened c.args.client) (puts_opened _ _ _ c.args.client) refl (omega arith) in
    search (rules, s, many)

pub returns-in_err-reserve : goal.returns-in_err-reserve
returns-in_err-reserve c =
    let many : c.len.result ≡ length (open_clients c.args.self.now.base c.args.self.now.journal) =
    rw (← c.self.view_is) (c.len.ensures.len ∙ clients_counted _ _ _ c.self.inside.clients c.len.ensures.unique c.self.invariant.0.clients c.self.invariant.2.clients_once) in
    let s = c.in_ok-may_count.ensures (Opened c.args.client) (puts_opened _ _ _ c.args.client) refl (omega arith) in
    let free : refusal_now c.args.self.now (Opened c.args.client) ≡ None = search (rules, s, many) in
    search (rules, free)

pub returns-in_err-opened : goal.returns-in_err-opened
returns-in_err-opened c =
    let many : c.len.result ≡ length (open_clients c.args.self.now.base c.args.self.now.journal) =
    rw (← c.self.view_is) (c.len.ensures.len ∙ clients_counted _ _ _ c.self.inside.clients c.len.ensures.unique c.self.invariant.0.clients c.self.invariant.2.clients_once) in
    let s = c.in_ok-may_count.ensures (Opened c.args.client) (puts_opened _ _ _ c.args.client) refl (omega arith) in
    let free : refusal_now c.args.self.now (Opened c.args.client) ≡ None = search (rules, s, many) in
    search (rules, free)

pub returns-in_err-insert : goal.returns-in_err-insert
returns-in_err-insert c =
    let many : c.len.result ≡ length (open_clients c.args.self.now.base c.args.self.now.journal) =
    rw (← c.self.view_is) (c.len.ensures.len ∙ clients_counted _ _ _ c.self.inside.clients c.len.ensures.unique c.self.invariant.0.clients c.self.invariant.2.clients_once) in
    let s = c.in_ok-may_count.ensures (Opened c.args.client) (puts_opened _ _ _ c.args.client) refl (omega arith) in
    let free : refusal_now c.args.self.now (Opened c.args.client) ≡ None = search (rules, s, many) in
    search (rules, free)

pub returns : goal.returns
returns c =
    let many : c.len.result ≡ length (open_clients c.args.self.now.base c.args.self.now.journal) =
    rw (← c.self.view_is) (c.len.ensures.len ∙ clients_counted _ _ _ c.self.inside.clients c.len.ensures.unique c.self.invariant.0.clients c.self.invariant.2.clients_once) in
    let s = c.in_ok-may_count.ensures (Opened c.args.client) (puts_opened _ _ _ c.args.client) refl (omega arith) in
    let free : refusal_now c.args.self.now (Opened c.args.client) ≡ None = search (rules, s, many) in
    search (rules, free)
