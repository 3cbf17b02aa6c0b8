-- A value is strict just where no object in it has a key twice.
use Rattle.std.proofs.Common.{◌≡◌, ◌≢◌, refl, sym, ap, ◌∙◌, ℕ, zero, suc, ◌<◌, Bool, true, false, not, ◌&&◌, List, [], ◌∷◌, length, get_or, Option, Some, None, arith, true≢false}
use Rattle.std.specs.Prelude.{if◌then◌else◌, bytes_eq, IsSomeAnd, option_and_then}
use Rattle.std.specs.List.{list_any}
use Rattle.std.proofs.lemmas.List.Folds.{list_any_at, Any-from_list_any}
use Rattle.std.proofs.lemmas.Slice.Eq.{bytes_eq-Decides}
use Rattle.json.specs.Json.{Json, null, boolean, number, string, array, object, Items, no_items, item, Members, no_members, member, document}
use Rattle.json.specs.Strict.{keys, AreDistinct, HasUniqueKeys, ItemsHaveUniqueKeys, MembersHaveUniqueKeys}
use Rattle.tokens.specs.Object.{are_distinct, is_strict, items_are_strict, members_are_strict, if_object, if_strict, object_of}

both : (a b : Bool) → a ≡ true → b ≡ true → (a && b) ≡ true
both true b p q = q
both false b p q = p

left : (a b : Bool) → (a && b) ≡ true → a ≡ true
left true b p = refl
left false b p = p

right : (a b : Bool) → (a && b) ≡ true → b ≡ true
right true b p = p
right false b p = absurd (true≢false (sym p))

not_true : (a : Bool) → not a ≡ true → a ≡ true → ⊥
not_true true p q = true≢false (sym p)
not_true false p q = true≢false (sym q)

-- a name that is none of the others
apart : (name : List ℕ) (names : List (List ℕ)) (b : Bool) → list_any (bytes_eq name) names ≡ b → AreDistinct (name ∷ names) → not b ≡ true
apart name names false is h = refl
apart name names true is h =
    let found = Any-from_list_any (bytes_eq name) names is in
    absurd (h zero (suc found.0) found.1 (omega arith) (omega (arith, found.2)) ((bytes_eq-Decides name found.1).0 found.4 ∙ sym found.3))

pub distinct : (names : List (List ℕ)) → AreDistinct names → are_distinct names ≡ true
distinct [] h = refl
distinct (name ∷ names) h =
    both _ _ (apart name names (list_any (bytes_eq name) names) refl h) (distinct names (λ i j d less within. h (suc i) (suc j) d (omega arith) (omega arith)))

pub distinct_back : (names : List (List ℕ)) → are_distinct names ≡ true → AreDistinct names
distinct_back [] h i j d less within e = omega arith
distinct_back (name ∷ names) h zero zero d less within e = omega arith
distinct_back (name ∷ names) h zero (suc j) d less within e =
    not_true (list_any (bytes_eq name) names) (left _ _ h) (list_any_at (bytes_eq name) names j d (omega arith) ((bytes_eq-Decides name (get_or names j d)).1 e))
distinct_back (name ∷ names) h (suc i) zero d less within e = omega arith
distinct_back (name ∷ names) h (suc i) (suc j) d less within e = distinct_back names (right _ _ h) i j d (omega arith) (omega arith) e

mutual
  pub strict : (j : Json) → HasUniqueKeys j → is_strict j ≡ true
  strict null h = refl
  strict (boolean b) h = refl
  strict (number s) h = refl
  strict (string s) h = refl
  strict (array js) h = strict_items js h
  strict (object ms) h = both _ _ (distinct (keys ms) h.0) (strict_members ms h.1)

  strict_items : (js : Items) → ItemsHaveUniqueKeys js → items_are_strict js ≡ true
  strict_items no_items h = refl
  strict_items (item j js) h = both _ _ (strict j h.0) (strict_items js h.1)

  strict_members : (ms : Members) → MembersHaveUniqueKeys ms → members_are_strict ms ≡ true
  strict_members no_members h = refl
  strict_members (member k j ms) h = both _ _ (strict j h.0) (strict_members ms h.1)

mutual
  pub unique : (j : Json) → is_strict j ≡ true → HasUniqueKeys j
  unique null h = tt
  unique (boolean b) h = tt
  unique (number s) h = tt
  unique (string s) h = tt
  unique (array js) h = unique_items js h
  unique (object ms) h = (distinct_back (keys ms) (left _ _ h), unique_members ms (right _ _ h))

  unique_items : (js : Items) → items_are_strict js ≡ true → ItemsHaveUniqueKeys js
  unique_items no_items h = tt
  unique_items (item j js) h = (unique j (left _ _ h), unique_items js (right _ _ h))

  unique_members : (ms : Members) → members_are_strict ms ≡ true → MembersHaveUniqueKeys ms
  unique_members no_members h = tt
  unique_members (member k j ms) h = (unique j (left _ _ h), unique_members ms (right _ _ h))

by_strict : (j : Json) (b : Bool) → is_strict j ≡ b → ¬ HasUniqueKeys j → if_strict j ≡ None
by_strict j true is not_unique = absurd (not_unique (unique j is))
by_strict j false is not_unique = ap (λ (b : Bool). if b then if_object j else None) is

-- what was read strictly
pub object_read : (text : List ℕ) (j : Json) → document text ≡ Some j → HasUniqueKeys j → if_object j ≡ object_of text
unfolding object_of
object_read text j is h =
    sym (ap (λ (b : Bool). if b then if_object j else None) (strict j h)) ∙ ap (λ o. option_and_then if_strict o) (sym is)

-- what isn't JSON is no object
pub no_document : (text : List ℕ) → document text ≡ None → None ≡ object_of text
unfolding object_of
no_document text is = ap (λ o. option_and_then if_strict o) (sym is)

doubled_in : (o : Option Json) → IsSomeAnd o (λ j. ¬ HasUniqueKeys j) → None ≡ option_and_then if_strict o
doubled_in None h = refl
doubled_in (Some j) h = sym (by_strict j (is_strict j) refl h)

-- nor is what has a key twice
pub doubled : (text : List ℕ) → IsSomeAnd (document text) (λ j. ¬ HasUniqueKeys j) → None ≡ object_of text
unfolding object_of
doubled text h = doubled_in (document text) h
