use Rattle.std.proofs.Common.{rules, sym, ◌∙◌, cond, false}
use Rattle.std.specs.BTreeMap.{is_at}
use Rattle.std.specs.BTreeSet as sorted
use Rattle.hub_state.specs.Seats.{seat_cmp}
use Rattle.hub_state.proofs.SeatsLemmas.{index_removed}
use Rattle.hub_state.proofs.seats.Seats.remove.Goals as goal

pub invariant_of-self : goal.invariant_of-self
invariant_of-self c = (
  index_removed c.self.inside.by_sid.entries c.remove.new.self.entries c.self.inside.by_space c.remove-in-Some.new.self c.args.sid c.in-Some.socket c.self.invariant.0 (rw c.number.ensures at (sym c.in-Some.ensures.value)) (rw c.number.ensures at c.remove.ensures.updates.0)
      (λ q. c.remove-in-Some.ensures.updates.0 q ∙ (λ i. cond (is_at (seat_cmp (c.from.ensures i, c.args.sid)) q) false (sorted.contains seat_cmp c.self.inside.by_space q))),
  λ k. rw (c.forget.ensures k) tt,
)

pub returns-in-Some : goal.returns-in-Some
returns-in-Some c = rw (← c.self.view_is) (λ s. search rules)
