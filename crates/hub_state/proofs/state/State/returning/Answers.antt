use Rattle.std.proofs.Common.{rules, arith, ◌≡◌, ◌∙◌, refl, sym, true, None, Some, Err}
use Rattle.journal.specs.declared.step.What.TheVariants.{Recovered}
use Rattle.journal.specs.Membership.{is_open, is_space, socket_of, place_of}
use Rattle.journal.specs.Recovery.{recovery_of}
use Rattle.journal.specs.Sessions.{session_with}
use Rattle.hub_state.specs.Recovering.{session_refusal_at}
use Rattle.hub_state.specs.Words.{saves}
use Rattle.hub_state.proofs.RecoverLemmas.{has-no-place, by-count}
use Rattle.hub_state.proofs.state.State.returning.Goals as goal

pub returns-in_default-put_count-clause-refused : goal.returns-in_default-put_count-clause-refused
returns-in_default-put_count-clause-refused c =
    let h = c.args.self.now in
    let place = place_of h.limits c.args.space.now in
    let is : c.from-place.result ≡ place = c.from-place.ensures ∙ c.in_ok-space.ensures.place in
    let known : is_open h.base h.journal c.args.client ≡ true = search rules in
    let has_space : is_space h.limits place ≡ true = rw c.in_ok-space.ensures.place at c.in_ok-space.ensures.known in
    let free : socket_of h.base h.journal c.args.client c.from-place.result ≡ None = search rules in
    let alone : socket_of h.base h.journal c.args.client place ≡ None = rw is at free in
    let session : session_with c.args.pid (saves h) ≡ Some c.in-Some.session.now = search rules in
    let here : c.session.inside.space ≡ place = c.if-session-space.false ∙ c.in_ok-space.ensures.place in
    let accepted : session_refusal_at h c.args.pid place c.args.offset c.args.at ≡ None = search (rules, here, session) in
    has-no-place h.base h.limits h.journal c.args.client place c.args.pid c.args.offset c.args.at c.in-Some.session.now known has_space alone accepted session c.in_default-put_count.ensures.none

pub returns-in_err-may_count-clause-refused : goal.returns-in_err-may_count-clause-refused
returns-in_err-may_count-clause-refused c =
    let h = c.args.self.now in
    let place = place_of h.limits c.args.space.now in
    let is : c.from-place.result ≡ place = c.from-place.ensures ∙ c.in_ok-space.ensures.place in
    let known : is_open h.base h.journal c.args.client ≡ true = search rules in
    let has_space : is_space h.limits place ≡ true = rw c.in_ok-space.ensures.place at c.in_ok-space.ensures.known in
    let free : socket_of h.base h.journal c.args.client c.from-place.result ≡ None = search rules in
    let alone : socket_of h.base h.journal c.args.client place ≡ None = rw is at free in
    let session : session_with c.args.pid (saves h) ≡ Some c.in-Some.session.now = search rules in
    let here : c.session.inside.space ≡ place = c.if-session-space.false ∙ c.in_ok-space.ensures.place in
    let accepted : session_refusal_at h c.args.pid place c.args.offset c.args.at ≡ None = search (rules, here, session) in
    let failed : c.from_residual-in_err-may_count.result ≡ Err c.in_err-may_count.field-0.0 = search rules in
    rw failed (by-count h.base h.limits h.journal c.args.client place c.args.pid c.args.offset c.args.at c.in-Some.session.now known has_space alone accepted session
    c.in-Some-put_count.puts c.in-Some-put_count.ensures.place c.in-Some-put_count.ensures.count _
    (λ placed. sym (c.in_err-may_count.ensures (Recovered (recovery_of h.base h.limits h.journal c.args.client place c.args.pid c.args.offset)) placed refl (omega arith))))

pub returns-clause-accepted : goal.returns-clause-accepted
returns-clause-accepted c =
    let h = c.args.self.now in
    let place = place_of h.limits c.args.space.now in
    let is : c.from-place.result ≡ place = c.from-place.ensures ∙ c.in_ok-space.ensures.place in
    let known : is_open h.base h.journal c.args.client ≡ true = search rules in
    let has_space : is_space h.limits place ≡ true = rw c.in_ok-space.ensures.place at c.in_ok-space.ensures.known in
    let free : socket_of h.base h.journal c.args.client c.from-place.result ≡ None = search rules in
    let alone : socket_of h.base h.journal c.args.client place ≡ None = rw is at free in
    let session : session_with c.args.pid (saves h) ≡ Some c.in-Some.session.now = search rules in
    let here : c.session.inside.space ≡ place = c.if-session-space.false ∙ c.in_ok-space.ensures.place in
    let accepted : session_refusal_at h c.args.pid place c.args.offset c.args.at ≡ None = search (rules, here, session) in
    by-count h.base h.limits h.journal c.args.client place c.args.pid c.args.offset c.args.at c.in-Some.session.now known has_space alone accepted session
    c.in-Some-put_count.puts c.in-Some-put_count.ensures.place c.in-Some-put_count.ensures.count _
    (λ placed. sym (c.in_ok-may_count.ensures (Recovered (recovery_of h.base h.limits h.journal c.args.client place c.args.pid c.args.offset)) placed refl (omega arith)))
