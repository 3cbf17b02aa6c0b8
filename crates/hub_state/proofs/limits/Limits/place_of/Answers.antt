use Rattle.std.proofs.Common.{◌≡◌, ℕ, List, Bool, true, [], ◌∷◌, Some, cond, ap, sym, ◌∙◌, refl, bytes_eq, position, slice_get, arith}
use Rattle.hub_state.proofs.limits.Limits.place_of.Goals as goal
use Rattle.std.specs.List.{position_from}
use Rattle.std.proofs.lemmas.Iterator.Adapters.{position_from-zero}
use Rattle.std.proofs.lemmas.Slice.Eq.{bytes_eq-Decides}

-- the first of a list stands at place 0
stands_first : (test : List ℕ → Bool) (names : List (List ℕ)) (name : List ℕ) → slice_get names 0 ≡ Some name → test name ≡ true → Some 0 ≡ position test names
stands_first test [] name first is = absurd (cc)
stands_first test (other ∷ names) name first is =
    let same : test other ≡ true = cc in
    ap (λ b. cond b (Some 0) (position_from test 1 names)) (sym same) ∙ sym (position_from-zero test (other ∷ names))

pub returns : goal.returns
returns c =
    let name = c.args.name.now in
    let same : c.in-Some.first.now ≡ name =
    (bytes_eq-Decides c.in-Some.first.now name).0 (rw c.as_str.ensures at (sym c.eq.ensures ∙ c.if-eq.true)) in
    let first : slice_get c.args.self.now.spaces 0 ≡ Some name = grind (arith, same) in
    stands_first (bytes_eq name) c.args.self.now.spaces name first ((bytes_eq-Decides name name).1 refl)
