use Rattle.hub_state.specs.Seats.{seat_at}
use Rattle.std.proofs.Common.{◌≡◌, ◌∙◌, ◌∷◌, [], ap, sym, refl, max, nat_eq}
use Rattle.std.specs.Arc.{arc_value}
use Rattle.journal.specs.declared.socket.Socket.{Socket}
use Rattle.std.specs.Ordering.{nat_cmp}
use Rattle.std.specs.HashMap.{get}
use Rattle.std.specs.BTreeSet as sorted
use Rattle.room_maps.specs.Membership.{with_socket}
use Rattle.room_maps.proofs.MembershipLemmas.{with_pairs-none}
use Rattle.journal.specs.Outboxes.{answer}
use Rattle.journal.specs.Refusals.{attach_refusal}
use Rattle.journal.specs.Totals.{is_spent}
use Rattle.journal.specs.declared.step.What.TheVariants.{Attached}
use Rattle.journal.proofs.CountsLemmas.{unrefused}
use Rattle.journal.proofs.SocketsLemmas.{attached, can_attach, seated, may-attach, free-there}
use Rattle.hub_state.proofs.EndedLemmas.{hub-of, none-ended, plus, recorded}
use Rattle.hub_state.proofs.PutsLemmas.{seated_in, told-first, still-alone}
use Rattle.hub_state.proofs.state.State.attach.Goals as goal

pub add-requires-clause-counted : goal.add-requires-clause-counted
add-requires-clause-counted c = can_attach c.self.inside.base c.self.inside.limits c.self.inside.records.steps.steps c.self.inside.records.counts c.self.invariant.3 c.self.invariant.2 c.in_ok-socket.socket (rw (← c.self.view_is) at (sym c.in_ok-socket.ensures.accepted))

pub seat-requires-clause-alone : goal.seat-requires-clause-alone
seat-requires-clause-alone c =
    let base = c.self.inside.base in
    let limits = c.self.inside.limits in
    let journal = c.self.inside.records.steps.steps in
    let may = may-attach base limits journal c.in_ok-socket.socket (unrefused (attach_refusal base limits journal c.in_ok-socket.socket) (is_spent base limits journal (Attached c.in_ok-socket.socket)) (rw (← c.self.view_is) at (sym c.in_ok-socket.ensures.accepted))) in
    still-alone (get nat_eq c.self.inside.clients) (get nat_eq c.put_entry.new.clients) c.in_ok-socket.socket.client c.in_ok-socket.socket.space (arc_value c.in_ok-answer.answer ∷ []) c.in_ok-put_entry.ensures.ok
    (free-there base limits (get nat_eq c.self.inside.clients) journal c.in_ok-socket.socket.client c.in_ok-socket.socket.space c.self.invariant.0.clients may.known may.alone)

pub invariant_of-self-2 : goal.invariant_of-self-2
invariant_of-self-2 c =
    let told : arc_value c.in_ok-answer.answer ≡ answer c.self.inside.limits c.in_ok-socket.socket = rw (← c.self.view_is) at
    (c.in_ok-answer.ensures.ok c.args.client
    ∙ ap (λ p. answer c.args.self.now.limits (record { client = c.args.client; space = p; sid = c.args.sid; pid = c.args.pid })) (c.from.ensures ∙ ap (λ (k : Socket). k.space) c.in_ok-socket.ensures.socket)
    ∙ ap (answer c.args.self.now.limits) (sym c.in_ok-socket.ensures.socket)) in
    let k = c.in_ok-socket.socket in
    let e = answer c.self.inside.limits k in
    let ids = c.in_default.ensures.ids in
    let puts = seated (get nat_eq c.self.inside.clients) (seated_in (get nat_eq c.self.inside.clients) k.client k) (get nat_eq c.seat.new.clients) k.client k e (λ q. refl)
    (told-first (get nat_eq c.self.inside.clients) (get nat_eq c.put_entry.new.clients) (get nat_eq c.seat.new.clients) k.client k (e ∷ []) (rw told at c.in_ok-put_entry.ensures.ok) c.in_default.ensures.client) in
    let hub = hub-of c.self.inside c.self.invariant in
    recorded _ _ _ _ _ _ _ _ _ _ _ _ _ _ _ c.add.ensures.last c.add.ensures.counts (c.add.ensures.steps ∙ ap (λ steps. record { at = max c.args.now c.self.inside.records.last; what = Attached k } ∷ steps) c.reserve.ensures.same)
    (plus (attached c.self.inside.base c.self.inside.limits c.in_ok-socket.socket c.args.now c.self.inside.records.last (get nat_eq c.self.inside.clients) (get nat_eq c.seat.new.clients) (seat_at c.self.inside.live.seats) (seat_at c.seat.new.live.seats)
    (sorted.contains nat_cmp c.self.inside.live.pids) (sorted.contains nat_cmp c.seat.new.live.pids) c.self.inside.live.rooms c.seat.new.live.rooms c.self.inside.saved c.self.inside.log c.self.inside.records.counts c.self.inside.records.steps.steps
    hub (rw (← c.self.view_is) at (sym c.in_ok-socket.ensures.accepted)) puts ids.0 ids.1 (ids.2 ∙ with_pairs-none (with_socket c.self.inside.live.rooms c.in_ok-socket.socket.sid) c.in_ok-socket.socket.sid) ids.3)
    (none-ended _ _ _ _ c.self.invariant.4 refl))
