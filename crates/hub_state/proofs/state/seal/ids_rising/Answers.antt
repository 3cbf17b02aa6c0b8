use Rattle.std.proofs.Common.{rules, ◌≡◌, ◌==◌, ◌∙◌, ℕ, sym, subst, is_some, nat_eq}
use Rattle.std.specs.HashMap.{keys}
use Rattle.std.specs.List.{list_any, IsDistinct}
use Rattle.std.specs.Ordering.{nat_cmp}
use Rattle.std.specs.Map.{lookup}
use Rattle.std.proofs.lemmas.Cmp.{nat_eq_equiv}
use Rattle.std.proofs.lemmas.Map.Made.{is_some-lookup}
use Rattle.terms.specs.Listing.{ListsRising}
use Rattle.journal.proofs.DismissalLemmas.{sorted-once}
use Rattle.hub_state.proofs.state.seal.ids_rising.Goals as goal

pub returns : goal.returns
returns c =
    let m = c.args.clients.now in
    let items : c.in_ok-ids.ids.items ≡ keys m = search rules in
    let once : IsDistinct nat_eq c.in_ok-ids.ids.items = subst (IsDistinct nat_eq) (sym items) c.keys.ensures.unique in
    let found : (x : ℕ) → list_any (λ y. y == x) (keys m) ≡ is_some (lookup (nat_eq x) m.entries) =
    λ x. (λ i. list_any (λ y. nat_eq_equiv.symm y x i) (keys m)) ∙ sym (is_some-lookup (nat_eq x) m.entries) in
    let listed = sorted-once c.in_ok-ids.ids.items c.sort_unstable.new.self.items once c.sort_unstable.ensures.permutation c.sort_unstable.ensures.sorted in
    subst (λ test. ListsRising nat_cmp test c.sort_unstable.new.self.items) (λ i x. (subst (λ xs. list_any (λ y. y == x) xs ≡ is_some (lookup (nat_eq x) m.entries)) (sym items) (found x)) i) listed
