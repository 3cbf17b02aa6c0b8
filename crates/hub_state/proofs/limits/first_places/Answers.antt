use Rattle.std.proofs.Common.{◌≡◌, ◌∙◌, ◌<◌, ◌+◌, ◌-◌, ℕ, zero, suc, List, [], ◌∷◌, length, drop, get_or, Some, if◌then◌else◌, sym, ap, arith, bytes_eq}
use Rattle.std.specs.List.{position_from}
use Rattle.std.specs.BTreeMap.{get_by_text}
use Rattle.std.proofs.lemmas.Iterator.Adapters.{position_from-zero}
use Rattle.std.proofs.lemmas.Map.Text.{text_keys}
use Rattle.hub_state.proofs.limits.first_places.Goals as goal

-- the first place of a name, from the name at one place on
from_place : (names : List (List ℕ)) (name item : List ℕ) (n i : ℕ) → n < length names → item ≡ get_or names n item
    → (if bytes_eq name item then Some i else position_from (bytes_eq name) (i + 1) (drop (suc n) names)) ≡ position_from (bytes_eq name) i (drop n names)
from_place [] name item n i within is = absurd (omega (arith, within))
from_place (x ∷ xs) name item zero i within is = ap (λ x. if bytes_eq name x then Some i else position_from (bytes_eq name) (i + 1) xs) is
from_place (x ∷ xs) name item (suc n) i within is = from_place xs name item n i (omega (arith, within)) is

put : (c : goal.In_ok-insert) → (other : List ℕ) → get_by_text c.insert.new.self other ≡ (if bytes_eq other c.index-names-place.result then Some (c.names.place - 1) else get_by_text c.names.places other)
put c = λ other. grind (arith, text_keys)

pub names-preserved : goal.names-preserved
names-preserved c =
    let n : ℕ = c.names.place - 1 in
    let item : List ℕ = c.index-names-place.result in
    let one : n + 1 ≡ c.names.place = omega arith in
    let next : suc n ≡ c.names.place = omega arith in
    record {
      within = omega arith;
      first = λ name. put c name
          ∙ ap (λ found. if bytes_eq name item then Some n else found)
          (c.names.invariant.first name
          ∙ ap (λ p. position_from (bytes_eq name) p (drop c.names.place c.args.names.now)) (sym one)
          ∙ ap (λ p. position_from (bytes_eq name) (n + 1) (drop p c.args.names.now)) (sym next))
          ∙ from_place c.args.names.now name item n n (omega arith) c.index-names-place.is;
    }

pub returns-clause-ok : goal.returns-clause-ok
returns-clause-ok c = λ name.
    let none : c.names.place ≡ 0 = omega arith in
    rw none at (c.names.invariant.first name) ∙ sym (position_from-zero (bytes_eq name) c.args.names.now)
