use Rattle.hub_state.specs.Seats.{seat_at}
use Rattle.std.proofs.Common.{rules, ◌≡◌, ◌||◌, ◌==◌, ◌∙◌, sym, ap, map, length, ℕ, Some, if◌then◌else◌, refl, nat_eq}
use Rattle.std.specs.Ordering.{nat_cmp}
use Rattle.std.specs.HashMap.{get}
use Rattle.std.specs.BTreeSet as sorted
use Rattle.std.specs.Arc.{arc_value}
use Rattle.std.proofs.lemmas.List.{length-map}
use Rattle.room_maps.specs.Membership as room_maps
use Rattle.hub_state.proofs.RecoverLemmas.{comes-back, came-back}
use Rattle.hub_state.proofs.PutsLemmas.{seated_in, told-first, still-alone}
use Rattle.hub_state.proofs.EndedLemmas.{none-ended, plus}
use Rattle.hub_state.proofs.state.State.bring_back.Goals as goal

pub seat-requires-clause-alone : goal.seat-requires-clause-alone
seat-requires-clause-alone c =
    let b = comes-back c.self.inside _ _ c.recovery.inside.socket _ c.args.now c.self.invariant c.self.view_is (ap (λ r. r.socket) c.recovery.view_is) c.requires.accepted c.requires.right c.requires.puts in
    still-alone (get nat_eq c.self.inside.clients) (get nat_eq c.put_all.new.clients) c.recovery.inside.socket.client c.recovery.inside.socket.space (map arc_value c.args.puts.items) c.in_ok-put_all.ensures.ok b.alone

pub seat-requires-clause-new : goal.seat-requires-clause-new
seat-requires-clause-new c =
    let b = comes-back c.self.inside _ _ c.recovery.inside.socket _ c.args.now c.self.invariant c.self.view_is (ap (λ r. r.socket) c.recovery.view_is) c.requires.accepted c.requires.right c.requires.puts in
    let same : c.recovery.inside.socket ≡ c.args.recovery.socket = ap (λ r. r.socket) c.recovery.view_is in
    rw same (b.free, b.unused)

pub add-requires-clause-counted : goal.add-requires-clause-counted
add-requires-clause-counted c =
    let b = comes-back c.self.inside _ _ c.recovery.inside.socket _ c.args.now c.self.invariant c.self.view_is (ap (λ r. r.socket) c.recovery.view_is) c.requires.accepted c.requires.right c.requires.puts in
    let number : c.len-count.result ≡ length c.args.puts.items = search rules in
    rw (number ∙ sym (length-map c.args.puts.items arc_value)) b.counts

pub invariant_of-self-2 : goal.invariant_of-self-2
invariant_of-self-2 c =
    let r = c.args.recovery in
    let hub = c.self.inside in
    let k = c.recovery.inside.socket in
    let es = map arc_value c.args.puts.items in
    let b = comes-back c.self.inside _ _ c.recovery.inside.socket _ c.args.now c.self.invariant c.self.view_is (ap (λ r. r.socket) c.recovery.view_is) c.requires.accepted c.requires.right c.requires.puts in
    let number : c.len-count.result ≡ length c.args.puts.items = search rules in
    let ids = rw c.deref.ensures.value at c.in_default.ensures.ids in
    let seats : (s : ℕ) → seat_at c.seat.new.live.seats s ≡ (if r.socket.sid == s then Some r.socket else seat_at hub.live.seats s) = rw (← c.recovery.view_is) ids.0 in
    let pids : (p : ℕ) → sorted.contains nat_cmp c.seat.new.live.pids p ≡ ((r.socket.pid == p) || sorted.contains nat_cmp hub.live.pids p) = rw (← c.recovery.view_is) ids.1 in
    let rooms : c.seat.new.live.rooms ≡ room_maps.with_socket_in hub.live.rooms r.socket.sid r.rooms = rw (← c.recovery.view_is) ids.2 in
    rw (c.add.ensures.steps, c.add.ensures.last, c.reserve.ensures.same, c.add.ensures.counts)
    (plus (came-back hub r k es c.args.now c.len-count.result (seated_in (get nat_eq hub.clients) k.client k) (get nat_eq c.seat.new.clients) (seat_at c.seat.new.live.seats)
    (sorted.contains nat_cmp c.seat.new.live.pids) c.seat.new.live.rooms c.remove-session.new.self c.self.invariant b (number ∙ sym (length-map c.args.puts.items arc_value))
    (λ q. refl) (told-first (get nat_eq hub.clients) (get nat_eq c.put_all.new.clients) (get nat_eq c.seat.new.clients) k.client k es c.in_ok-put_all.ensures.ok c.in_default.ensures.client) seats pids rooms ids.3 c.remove-session.ensures.removed)
    (none-ended _ _ _ _ c.self.invariant.4 refl))
