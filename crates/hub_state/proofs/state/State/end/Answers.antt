use Rattle.std.proofs.Common.{rules, ◌≡◌, ◌==◌, ◌∙◌, ℕ, subst, sym, refl, arith, if◌then◌else◌, nat_eq}
use Rattle.std.specs.Option.{option_map}
use Rattle.std.specs.HashMap.{get}
use Rattle.journal.specs.Fields.{without_place}
use Rattle.journal.specs.Membership.{socket_with, sid_of}
use Rattle.journal.proofs.EndLemmas.{puts_ended, ended, can_end, one-known}
use Rattle.journal.specs.declared.step.What.TheVariants.{Ended}
use Rattle.hub_state.specs.EndedSockets.{sockets_ended_by}
use Rattle.hub_state.proofs.EndedLemmas.{hub-of, plus, some-ended}
use Rattle.hub_state.proofs.state.State.end.Goals as goal

pub invariant_of-self-2 : goal.invariant_of-self-2
invariant_of-self-2 c =
    let known : c.copied-known.result ≡ socket_with sid_of c.args.self.now.base c.args.self.now.journal c.args.sid = search rules in
    let found = rw (← c.self.view_is) at (sym known ∙ c.in_ok-socket.ensures.ok_part) in
    let find = get nat_eq c.self.inside.clients in
    let dropped : (q : ℕ) → get nat_eq c.drop_from.new.clients q ≡ (if c.in_ok-socket.socket.client == q then option_map (without_place c.in_ok-socket.socket.space) (find q) else find q)
    = subst (λ p. (q : ℕ) → get nat_eq c.drop_from.new.clients q ≡ (if c.in_ok-socket.socket.client == q then option_map (without_place p) (find q) else find q)) c.from.ensures c.drop_from.ensures in
    let gone : c.in_ok-ended.ended.items ≡ sockets_ended_by c.self.inside.base c.self.inside.records.steps.steps (Ended c.args.sid c.args.by) =
    rw found (rw c.self.invariant.0.rooms_are at c.in_ok-ended.ensures.ok) in
    rw (c.add.ensures.steps, c.add.ensures.last, c.reserve.ensures.same, c.add.ensures.counts)
    (plus (ended _ _ c.args.sid c.args.by c.in_ok-socket.socket c.args.now _ _ _ _ _ _ _ _ _ _ _ _ _ (hub-of c.self.inside c.self.invariant) (let s = c.in_ok-may_count.ensures (Ended c.args.sid c.args.by) (puts_ended _ _ _ c.args.sid c.args.by) refl (omega arith) in search (rules, s)) found dropped c.forget.ensures.seats c.forget.ensures.pids c.forget.ensures.rooms c.kept_facts.ensures)
    (some-ended _ _ _ _ _ _ c.self.invariant.4 gone c.in_ok-append.ensures.items))

pub add-requires-clause-counted : goal.add-requires-clause-counted
add-requires-clause-counted c = can_end _ _ _ _ c.self.invariant.3 c.self.invariant.2 c.args.sid c.args.by (let s = c.in_ok-may_count.ensures (Ended c.args.sid c.args.by) (puts_ended _ _ _ c.args.sid c.args.by) refl (omega arith) in search (rules, s))

pub forget-requires : goal.forget-requires
forget-requires c =
    let known : c.copied-known.result ≡ socket_with sid_of c.args.self.now.base c.args.self.now.journal c.args.sid = search rules in
    one-known c.self.inside.base c.self.inside.limits c.args.sid c.in_ok-socket.socket c.self.inside.records.steps.steps c.self.inside.live.rooms c.self.invariant.2 c.self.invariant.0.rooms_are (rw (← c.self.view_is) at (sym known ∙ c.in_ok-socket.ensures.ok_part))

pub returns-in_err-may_count : goal.returns-in_err-may_count
returns-in_err-may_count c = let s = c.in_err-may_count.ensures (Ended c.args.sid c.args.by) (puts_ended _ _ _ c.args.sid c.args.by) refl (omega arith) in search (rules, s)

pub returns-in_err-ended : goal.returns-in_err-ended
returns-in_err-ended c = let s = c.in_ok-may_count.ensures (Ended c.args.sid c.args.by) (puts_ended _ _ _ c.args.sid c.args.by) refl (omega arith) in search (rules, s)

pub returns-in_err-reserve : goal.returns-in_err-reserve
returns-in_err-reserve c = let s = c.in_ok-may_count.ensures (Ended c.args.sid c.args.by) (puts_ended _ _ _ c.args.sid c.args.by) refl (omega arith) in search (rules, s)

pub returns-in_err-append : goal.returns-in_err-append
returns-in_err-append c = let s = c.in_ok-may_count.ensures (Ended c.args.sid c.args.by) (puts_ended _ _ _ c.args.sid c.args.by) refl (omega arith) in search (rules, s)

pub returns : goal.returns
returns c = let s = c.in_ok-may_count.ensures (Ended c.args.sid c.args.by) (puts_ended _ _ _ c.args.sid c.args.by) refl (omega arith) in search (rules, s)
