use Rattle.std.proofs.Common.{rules, ◌≡◌, ◌==◌, ◌∙◌, ℕ, Bool, List, sym, subst, is_some, nat_eq}
use Rattle.std.specs.HashMap.{keys}
use Rattle.std.specs.List.{list_any, IsDistinct}
use Rattle.std.specs.Map.{lookup}
use Rattle.std.specs.Ordering.{nat_cmp}
use Rattle.std.proofs.lemmas.Cmp.{nat_eq_equiv}
use Rattle.std.proofs.lemmas.Map.Made.{is_some-lookup}
use Rattle.terms.specs.Listing.{ListsRising}
use Rattle.journal.proofs.DismissalLemmas.{sorted-once}
use Rattle.journal.specs.Membership.{is_open}
use Rattle.dispatch.proofs.event_core.Core.clients.Goals as goal

-- the list by a test that says the same
retold : (test other : ℕ → Bool) (xs : List ℕ) → ((c : ℕ) → test c ≡ other c) → ListsRising nat_cmp test xs → ListsRising nat_cmp other xs
retold test other xs same lists = subst (λ t. ListsRising nat_cmp t xs) (λ i c. same c i) lists

pub returns-clause-ok : goal.returns-clause-ok
returns-clause-ok g c =
    let m = c.self.inside.lines in
    let h = c.self.inside.hub.history in
    let items : c.in-Ok.clients.items ≡ keys m = search rules in
    let once : IsDistinct nat_eq c.in-Ok.clients.items = subst (IsDistinct nat_eq) (sym items) c.keys.ensures.unique in
    let found : (x : ℕ) → list_any (λ y. y == x) (keys m) ≡ is_open h.base h.journal x =
    λ x. (λ i. list_any (λ y. nat_eq_equiv.symm y x i) (keys m)) ∙ sym (is_some-lookup (nat_eq x) m.entries) ∙ c.self.invariant.0 x in
    let listed = sorted-once c.in-Ok.clients.items c.sort_unstable.new.self.items once c.sort_unstable.ensures.permutation c.sort_unstable.ensures.sorted in
    rw (← c.self.view_is) (retold _ (is_open h.base h.journal) _ (λ x. subst (λ xs. list_any (λ y. y == x) xs ≡ is_open h.base h.journal x) (sym items) (found x)) listed)
