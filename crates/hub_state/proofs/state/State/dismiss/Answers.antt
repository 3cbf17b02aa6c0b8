use Rattle.hub_state.specs.Seats.{seat_at}
use Rattle.std.proofs.Common.{rules, ◌≡◌, ◌==◌, ◌∙◌, ℕ, length, take, refl, subst, sym, ap, false, if◌then◌else◌, nat_eq}
use Rattle.std.specs.List.{list_any, flat_map, AllByRecursion}
use Rattle.std.specs.Option.{option_map}
use Rattle.std.proofs.lemmas.List.{take_at}
use Rattle.std.specs.Ordering.{nat_cmp}
use Rattle.std.specs.HashMap.{get}
use Rattle.std.specs.BTreeSet as sorted
use Rattle.journal.specs.declared.socket.Socket.{Socket}
use Rattle.journal.specs.Plain.{PlainMessage}
use Rattle.journal.specs.Fields.{client_at, without_place}
use Rattle.journal.specs.Casting.{is_full_in, in_space}
use Rattle.journal.specs.Membership.{sid_of, socket_with}
use Rattle.journal.proofs.DismissalLemmas.{receivers-once, have-places, goers-known, dismissed, can_dismiss}
use Rattle.journal.proofs.SocketsLemmas.{same-fields}
use Rattle.hub_state.proofs.EndedLemmas.{hub-of, plus, some-ended}
use Rattle.hub_state.proofs.state.State.dismiss.Goals as goal

pub put_messages-requires-clause-apart : goal.put_messages-requires-clause-apart
put_messages-requires-clause-apart c =
    let makes = rw (← c.self.view_is) at c.requires.makes in
    let d = c.args.dismissal in
    receivers-once c.self.inside.base c.self.inside.limits c.self.inside.records.steps.steps c.self.invariant.2 d.space d.rooms d.excepted c.args.sockets.items makes.matching
    (client_at c.self.inside.base c.self.inside.limits c.self.inside.records.steps.steps) (λ q. refl) c.args.messages.items makes.farewells

pub put_messages-requires-clause-places : goal.put_messages-requires-clause-places
put_messages-requires-clause-places c =
    let makes = rw (← c.self.view_is) at c.requires.makes in
    let d = c.args.dismissal in
    subst (λ find. AllByRecursion (λ (m : PlainMessage). is_full_in find m.entry m.client ≡ false) c.args.messages.items) (λ i q. sym (c.self.invariant.0.clients q) i)
    (have-places c.self.inside.base c.self.inside.limits c.self.inside.records.steps.steps c.self.invariant.2 d.space d.rooms d.excepted c.args.sockets.items makes.matching
    (client_at c.self.inside.base c.self.inside.limits c.self.inside.records.steps.steps) (λ q. refl) c.args.messages.items makes.farewells)

pub invariant_of-self-in-Err : goal.invariant_of-self-in-Err
invariant_of-self-in-Err c =
    let number : length c.self.inside.ended_sockets.items ≡ c.len-before.result = search rules in
    let list = c.truncate.ensures.items ∙ ap (take c.len-before.result) c.in_ok-append.ensures.items ∙ take_at c.self.inside.ended_sockets.items _ c.len-before.result number ∙ c.self.invariant.4 in
    rw c.reserve.ensures.same (same-fields _ _ _ _ _ _ _ _ _ _ _ _ _ _ c.self.invariant.0 c.in-Err.ensures.err (λ s. refl) (λ p. refl) refl, c.self.invariant.1, c.self.invariant.2, c.self.invariant.3, list)

pub forget_all-requires : goal.forget_all-requires
forget_all-requires c =
    let makes = rw (← c.self.view_is) at c.requires.makes in
    rw c.deref-6.ensures.value
    (goers-known c.self.inside.base c.self.inside.limits c.self.inside.records.steps.steps c.self.invariant.2 c.args.dismissal c.args.sockets.items c.args.messages.items makes c.self.inside.live.rooms c.self.invariant.0.rooms_are, makes.matching.apart)

pub add-requires-clause-counted : goal.add-requires-clause-counted
add-requires-clause-counted c =
    let makes = rw (← c.self.view_is) at c.requires.makes in
    let room = rw (← c.self.view_is) at c.requires.unspent in
    let told : length c.dismissal.inside.told.items ≡ c.len-placed.result = search rules in
    let number : length c.args.dismissal.told ≡ c.len-placed.result = rw (← c.dismissal.view_is) told in
    rw (← number) (can_dismiss c.self.inside.base c.self.inside.limits c.self.inside.records.steps.steps c.self.invariant.2 c.args.dismissal c.args.sockets.items c.args.messages.items makes c.self.inside.records.counts c.self.invariant.3 room)

pub invariant_of-self-2 : goal.invariant_of-self-2
invariant_of-self-2 c =
    let makes = rw (← c.self.view_is) at c.requires.makes in
    let room = rw (← c.self.view_is) at c.requires.unspent in
    let known = rw (← c.self.view_is) at c.requires.known in
    let told : length c.dismissal.inside.told.items ≡ c.len-placed.result = search rules in
    let number : length c.args.dismissal.told ≡ c.len-placed.result = rw (← c.dismissal.view_is) told in
    let place : c.from-place.result ≡ c.args.dismissal.space = rw (← c.dismissal.view_is) c.from-place.ensures in
    let drops : (q : ℕ) → get nat_eq c.drop_all.new.clients q
    ≡ (if list_any (λ (k : Socket). k.client == q) c.args.sockets.items then option_map (without_place c.args.dismissal.space) (get nat_eq c.put_messages.new.clients q) else get nat_eq c.put_messages.new.clients q)
    = rw (← place, ← c.deref-5.ensures.value) c.drop_all.ensures in
    let gone = rw c.deref-6.ensures.value at c.forget_all.ensures in
    let listed : c.in_ok-gone.gone.items ≡ flat_map (λ s. in_space c.args.dismissal.space (socket_with sid_of c.self.inside.base c.self.inside.records.steps.steps s)) c.args.dismissal.ended =
    rw (← c.dismissal.view_is) ((rw c.deref.ensures.value at c.in_ok-gone.ensures.ok) ∙ (λ i. flat_map (λ s. in_space c.dismissal.inside.space (c.self.invariant.0.seats s i)) c.dismissal.inside.ended.items)) in
    rw (c.add.ensures.steps, c.add.ensures.last, c.reserve.ensures.same, c.add.ensures.counts, ← number)
    (plus (dismissed c.self.inside.base c.self.inside.limits c.self.inside.records.steps.steps c.self.invariant.2 c.args.dismissal c.args.sockets.items c.args.messages.items makes c.args.now c.self.inside.records.last
    (get nat_eq c.self.inside.clients) (get nat_eq c.put_messages.new.clients) (get nat_eq c.drop_all.new.clients) (seat_at c.self.inside.live.seats) (seat_at c.forget_all.new.self.seats)
    (sorted.contains nat_cmp c.self.inside.live.pids) (sorted.contains nat_cmp c.forget_all.new.self.pids) c.self.inside.live.rooms c.forget_all.new.self.rooms c.self.inside.saved c.self.inside.log c.self.inside.records.counts
    (hub-of c.self.inside c.self.invariant) known room c.in_default.ensures.ok drops gone.0 gone.1 gone.2 c.kept_facts.ensures)
    (some-ended _ _ _ _ _ _ c.self.invariant.4 (rw (c.deref-2.ensures.value, listed, c.self.invariant.0.rooms_are) at c.in_ok-ended.ensures.ok) c.in_ok-append.ensures.items))
