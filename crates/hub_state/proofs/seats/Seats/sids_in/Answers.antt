use Rattle.hub_state.specs.Seats.{seat_at}
use Rattle.std.proofs.Common.{◌≡◌, ℕ, Bool, List, map, subst, rules}
use Rattle.std.specs.Prelude.{IfOk}
use Rattle.std.specs.Ordering.{nat_cmp}
use Rattle.terms.specs.Listing.{ListsRising}
use Rattle.journal.specs.Casting.{is_here}
use Rattle.hub_state.proofs.SeatsLemmas.{lists-place, listed}
use Rattle.hub_state.proofs.seats.Seats.sids_in.Goals as goal

-- the list by a test that says the same
retold : (test other : ℕ → Bool) (xs : List ℕ) → ((s : ℕ) → test s ≡ other s) → ListsRising nat_cmp test xs → ListsRising nat_cmp other xs
retold test other xs same lists = subst (λ t. ListsRising nat_cmp t xs) (λ i s. same s i) lists

-- the ids of what the range gives
given : (c : goal.After-collect) → IfOk c.collect.result (λ sids. sids.items ≡ map (λ q. q.1) c.range-here.result)
given c = search rules

pub returns : goal.returns
returns c =
    let set = c.self.inside.by_space in
    let items = subst (λ qs. IfOk c.collect.result (λ sids. sids.items ≡ map (λ q. q.1) qs)) (c.range-here.ensures.between tt) (given c) in
    rw (← c.self.view_is)
    (listed (λ s. is_here c.args.space (seat_at c.self.inside.by_sid.entries s)) (λ v. v.items) _ c.collect.result
    (rw (c.from-place.ensures, c.new-least.ensures) at items)
    (retold _ _ _ (c.self.invariant.0.mirror c.args.space) (lists-place c.args.space set.keys c.range-here.ensures.ordered)))
