use Rattle.std.proofs.Common.{rules, arith, ◌≡◌, ◌≤◌, ◌+◌, ◌-◌, ◌∷◌, ◌++◌, [], ap}
use Rattle.std.specs.Arc.{arc_value}
use Rattle.terms.specs.Entry.{entry_size}
use Rattle.circular_buffer.specs.Buffer.{buffer}
use Rattle.journal.proofs.OutboxesLemmas.{put_free}
use Rattle.hub_state.proofs.client.Outbox.offer.Goals as goal

pub invariant_of-self-2 : goal.invariant_of-self-2
invariant_of-self-2 c =
    let ring : c.try_push_back.new.self ≡ buffer (c.make_place.new.ring.items ++ c.in_ok-shared.shared ∷ []) c.make_place.new.ring.capacity = search rules in
    let size : c.in-Some.size ≡ entry_size (arc_value c.args.entry.now) = rw c.in-Some.is at c.requires.some in
    let same : entry_size (arc_value c.in_ok-shared.shared) ≡ entry_size (arc_value c.args.entry.now) = ap entry_size c.in_ok-shared.ensures in
    let fits : c.in-Some.size ≤ c.self.inside.free = search rules in
    let left : c.self.inside.free - c.in-Some.size + entry_size (arc_value c.in_ok-shared.shared) ≡ c.self.inside.free = omega (arith, size, same, fits) in
    rw (ring, c.make_place.ensures.same) (put_free arc_value _ c.in_ok-shared.shared _ _ _ c.self.invariant.0 left, c.make_place.ensures.within)
