use Rattle.hub_state.specs.Changes.{refusal_now}
use Rattle.room_maps.specs.Membership as room_maps
use Rattle.journal.specs.Membership.{rooms}
use Rattle.journal.specs.declared.step.What.TheVariants.{Joined}
use Rattle.std.proofs.Common.{rules, refl, ◌≡◌, ◌∙◌, arith, ap, None, sym}
use Rattle.journal.proofs.RoomsLemmas.{joined, can_join, puts_joined}
use Rattle.hub_state.proofs.EndedLemmas.{hub-of, none-ended, plus}
use Rattle.hub_state.proofs.state.State.join.Goals as goal

pub invariant_of-self-2 : goal.invariant_of-self-2
invariant_of-self-2 c =
    let asked : c.join_refusal.result ≡ room_maps.join_refusal (rooms c.args.self.now.base c.args.self.now.journal) c.args.sid c.args.room
    = rw (← c.self.view_is) (c.join_refusal.ensures ∙ ap (λ v. room_maps.join_refusal v c.args.sid c.args.room) c.self.invariant.0.rooms_are) in
    let s = c.in_ok-may_count.ensures (Joined c.args.sid c.args.room) (puts_joined _ _ _ c.args.sid c.args.room) refl (omega arith) in
    let free : refusal_now c.args.self.now (Joined c.args.sid c.args.room) ≡ None = search (rules, s, asked) in
    let hub = hub-of c.self.inside c.self.invariant in
    rw (c.add.ensures.steps, c.add.ensures.last, c.reserve.ensures.same, c.add.ensures.counts)
    (plus (joined _ _ c.args.sid c.args.room c.args.now _ _ _ _ _ _ _ _ _ _ hub (rw (← c.self.view_is) at (sym free)) (search rules) c.kept_facts.ensures)
    (none-ended _ _ _ _ c.self.invariant.4 refl))

pub add-requires-clause-counted : goal.add-requires-clause-counted
add-requires-clause-counted c =
    let asked : c.join_refusal.result ≡ room_maps.join_refusal (rooms c.args.self.now.base c.args.self.now.journal) c.args.sid c.args.room
    = rw (← c.self.view_is) (c.join_refusal.ensures ∙ ap (λ v. room_maps.join_refusal v c.args.sid c.args.room) c.self.invariant.0.rooms_are) in
    let s = c.in_ok-may_count.ensures (Joined c.args.sid c.args.room) (puts_joined _ _ _ c.args.sid c.args.room) refl (omega arith) in
    let free : refusal_now c.args.self.now (Joined c.args.sid c.args.room) ≡ None = search (rules, s, asked) in
    can_join _ _ _ _ c.self.invariant.3 c.self.invariant.2 c.args.sid c.args.room (rw (← c.self.view_is) at (sym free))

pub returns-in-Some : goal.returns-in-Some
returns-in-Some c =
    let asked : c.join_refusal.result ≡ room_maps.join_refusal (rooms c.args.self.now.base c.args.self.now.journal) c.args.sid c.args.room
    = rw (← c.self.view_is) (c.join_refusal.ensures ∙ ap (λ v. room_maps.join_refusal v c.args.sid c.args.room) c.self.invariant.0.rooms_are) in
    search (rules, asked)

pub returns-in_err-may_count : goal.returns-in_err-may_count
returns-in_err-may_count c =
    let asked : c.join_refusal.result ≡ room_maps.join_refusal (rooms c.args.self.now.base c.args.self.now.journal) c.args.sid c.args.room
    = rw (← c.self.view_is) (c.join_refusal.ensures ∙ ap (λ v. room_maps.join_refusal v c.args.sid c.args.room) c.self.invariant.0.rooms_are) in
    let s = c.in_err-may_count.ensures (Joined c.args.sid c.args.room) (puts_joined _ _ _ c.args.sid c.args.room) refl (omega arith) in
    search (rules, s, asked)

pub returns-in_err-reserve : goal.returns-in_err-reserve
returns-in_err-reserve c =
    let asked : c.join_refusal.result ≡ room_maps.join_refusal (rooms c.args.self.now.base c.args.self.now.journal) c.args.sid c.args.room
    = rw (← c.self.view_is) (c.join_refusal.ensures ∙ ap (λ v. room_maps.join_refusal v c.args.sid c.args.room) c.self.invariant.0.rooms_are) in
    let s = c.in_ok-may_count.ensures (Joined c.args.sid c.args.room) (puts_joined _ _ _ c.args.sid c.args.room) refl (omega arith) in
    let free : refusal_now c.args.self.now (Joined c.args.sid c.args.room) ≡ None = search (rules, s, asked) in
    search (rules, free)

pub returns : goal.returns
returns c =
    let asked : c.join_refusal.result ≡ room_maps.join_refusal (rooms c.args.self.now.base c.args.self.now.journal) c.args.sid c.args.room
    = rw (← c.self.view_is) (c.join_refusal.ensures ∙ ap (λ v. room_maps.join_refusal v c.args.sid c.args.room) c.self.invariant.0.rooms_are) in
    let s = c.in_ok-may_count.ensures (Joined c.args.sid c.args.room) (puts_joined _ _ _ c.args.sid c.args.room) refl (omega arith) in
    let free : refusal_now c.args.self.now (Joined c.args.sid c.args.room) ≡ None = search (rules, s, asked) in
    search (rules, free)

pub returns-then-is_err : goal.returns-then-is_err
returns-then-is_err c =
    let asked : c.join_refusal.result ≡ room_maps.join_refusal (rooms c.args.self.now.base c.args.self.now.journal) c.args.sid c.args.room
    = rw (← c.self.view_is) (c.join_refusal.ensures ∙ ap (λ v. room_maps.join_refusal v c.args.sid c.args.room) c.self.invariant.0.rooms_are) in
    let s = c.in_ok-may_count.ensures (Joined c.args.sid c.args.room) (puts_joined _ _ _ c.args.sid c.args.room) refl (omega arith) in
    let free : refusal_now c.args.self.now (Joined c.args.sid c.args.room) ≡ None = search (rules, s, asked) in
    search (rules, free)
