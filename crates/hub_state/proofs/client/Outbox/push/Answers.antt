use Rattle.std.proofs.Common.{rules, ◌≡◌, [], ◌∷◌, ◌++◌}
use Rattle.std.specs.Arc.{arc_value}
use Rattle.circular_buffer.specs.Buffer.{buffer}
use Rattle.journal.proofs.OutboxesLemmas.{put_free}
use Rattle.hub_state.proofs.client.Outbox.push.Goals as goal

pub invariant_of-self-2 : goal.invariant_of-self-2
invariant_of-self-2 c =
    let ring : c.try_push_back.new.self ≡ buffer (c.make_place.new.ring.items ++ c.args.entry ∷ []) c.make_place.new.ring.capacity = search rules in
    rw (ring, c.make_place.ensures.same) (put_free arc_value _ c.args.entry _ _ _ c.self.invariant.0 (rw c.deref.ensures at c.in-Some.ensures.some), c.make_place.ensures.within)
