use Rattle.std.proofs.Common.{rules, ◌≡◌, ℕ, ◌∙◌, ap, cond, true, None}
use Rattle.std.specs.BTreeMap.{is_at}
use Rattle.std.specs.BTreeSet as sorted
use Rattle.hub_state.specs.Seats.{seat_cmp, SeatMap, seat_at}
use Rattle.hub_state.proofs.SeatsLemmas.{index_added, index_same, taken_back}
use Rattle.hub_state.proofs.seats.Seats.insert.Goals as goal

pub invariant_of-self-in-Ok : goal.invariant_of-self-in-Ok
invariant_of-self-in-Ok c =
    let free : seat_at c.self.inside.by_sid.entries c.args.socket.sid ≡ None = ap (λ (m : SeatMap). seat_at m c.args.socket.sid) c.self.view_is ∙ c.requires.free in (
      index_added c.self.inside.by_sid.entries c.insert.new.self.entries c.self.inside.by_space c.insert-2.new.self c.args.socket c.self.invariant.0 free (rw c.number-key.ensures at c.in_ok-insert.ensures.updates.0)
          (λ q. c.in-Ok.ensures.updates.0 q ∙ (λ i. cond (is_at (seat_cmp (c.from-space.ensures i, c.args.socket.sid)) q) true (sorted.contains seat_cmp c.self.inside.by_space q))),
      λ k. rw (c.forget.ensures k) tt,
    )

unchanged : (c : goal.After-remove) → (s : ℕ) → seat_at c.remove.new.self.entries s ≡ seat_at c.self.inside.by_sid.entries s
unchanged c =
    let free : seat_at c.self.inside.by_sid.entries c.args.socket.sid ≡ None = ap (λ (m : SeatMap). seat_at m c.args.socket.sid) c.self.view_is ∙ c.requires.free in
    taken_back c.self.inside.by_sid.entries c.insert.new.self.entries c.remove.new.self.entries c.args.socket free (rw c.number-key.ensures at c.in_ok-insert.ensures.updates.0) (rw c.number-key.ensures at c.remove.ensures.updates.0)

pub invariant_of-self-in_default : goal.invariant_of-self-in_default
invariant_of-self-in_default c = (
  index_same c.self.inside.by_sid.entries c.remove.new.self.entries c.self.inside.by_space c.insert-2.new.self c.self.invariant.0 (unchanged c) c.in_default.ensures.err,
  λ k. rw (c.forget.ensures k) tt,
)

pub returns-in_default-clause-err : goal.returns-in_default-clause-err
returns-in_default-clause-err c = λ s. unchanged c s ∙ ap (λ (m : SeatMap). seat_at m s) c.self.view_is

pub returns-clause-ok : goal.returns-clause-ok
returns-clause-ok c = rw (← c.self.view_is) (λ s. search rules)
