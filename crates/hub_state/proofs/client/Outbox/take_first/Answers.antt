use Rattle.std.proofs.Common.{rules, arith, ◌≡◌, ◌≤◌, ◌+◌, ◌-◌, ◌++◌, ◌∙◌, refl, vec_capacity, vec_len, append-nil}
use Rattle.std.proofs.lemmas.List.{drop-drop}
use Rattle.std.specs.Arc.{arc_value}
use Rattle.journal.specs.Outboxes.{total_size}
use Rattle.hub_state.proofs.OutboxLemmas.{first_of, taken_more}
use Rattle.hub_state.proofs.client.Outbox.take_first.Goals.{in-Some, in_default}
use Rattle.hub_state.proofs.client.Outbox.take_first.Goals as goal

pub invariant_of-self : goal.invariant_of-self
unfolding total_size
invariant_of-self c = rw (c.move_all.ensures.left, c.move_all.ensures.same) (omega arith, c.self.invariant.1)

pub loop-index-preserved : goal.loop-index-preserved
loop-index-preserved c =
    let at = c.loop-index in
    let more : c.match-pop.taken.items ≡ at.taken.items ++ first_of c.pop.result = elim c.match-pop.branch [
      | in-Some w ↦ search rules
      | in_default w ↦ search (rules, append-nil)
    ] in
    let room : vec_len c.match-pop.taken + (c.args.count - (at._index + 1)) ≤ vec_capacity c.match-pop.taken = elim c.match-pop.branch [
      | in-Some w ↦ rw w.taken-is (omega arith)
      | in_default w ↦ rw w.taken-is (omega arith)
    ] in
    record {
      left = c.pop.ensures.left ∙ rw (at.invariant.left, drop-drop) refl;
      taken = taken_more arc_value c.pop.result at.taken.items c.match-pop.taken.items c.args.taken.now.items c.args.self.now.waiting at.self.waiting at._index more c.pop.ensures.oldest (search (rules, at.invariant.left)) at.invariant.taken;
      room = room;
    }
