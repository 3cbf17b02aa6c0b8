-- What holds of the first elements of a list holds of one more; and counting through a map.
use Rattle.std.proofs.Common.{◌≡◌, ap, ◌∙◌, sym, subst, refl, ℕ, suc, ◌+◌, ◌<◌, Bool, true, false, cond, List, [], ◌∷◌, ◌++◌, take, get_or, length, map, filter}
use Rattle.std.specs.List.{FoldsTo}
use Rattle.std.proofs.lemmas.Fn.{FoldsTo-push}
use Rattle.std.proofs.lemmas.List.{take_more, map-append}

pub folds_more : {P A : Type 0} (R : P → A → P → Type 0) (p : P) (xs : List A) (i : ℕ) (q : P) (d : A) (u : P)
    → i < length xs → FoldsTo R p (take i xs) q → R q (get_or xs i d) u → FoldsTo R p (take (i + 1) xs) u
folds_more R p xs i q d u below run step =
    subst (λ l. FoldsTo R p l u) (sym (take_more xs i d below)) (FoldsTo-push R p (take i xs) q (get_or xs i d) u run step)

pub folds_more_mapped : {P A B : Type 0} (f : A → B) (R : P → B → P → Type 0) (p : P) (xs : List A) (i : ℕ) (q : P) (x : A) (u : P)
    → i < length xs → x ≡ get_or xs i x → FoldsTo R p (map f (take i xs)) q → R q (f x) u → FoldsTo R p (map f (take (i + 1) xs)) u
folds_more_mapped f R p xs i q x u below is run step =
    let more = ap (map f) (take_more xs i x below ∙ ap (λ y. take i xs ++ y ∷ []) (sym is)) ∙ map-append f (take i xs) (x ∷ []) in
    subst (λ l. FoldsTo R p l u) (sym more) (FoldsTo-push R p (map f (take i xs)) q (f x) u run step)

pub count_mapped : {A B : Type 0} (f : A → B) (test : B → Bool) (xs : List A)
    → length (filter (λ x. test (f x)) xs) ≡ length (filter test (map f xs))
count_mapped f test [] = refl
count_mapped f test (x ∷ xs) = by (count_mapped f test xs) (test (f x))
  where
    by : length (filter (λ y. test (f y)) xs) ≡ length (filter test (map f xs)) → (b : Bool)
        → length (cond b (x ∷ filter (λ y. test (f y)) xs) (filter (λ y. test (f y)) xs)) ≡ length (cond b (f x ∷ filter test (map f xs)) (filter test (map f xs)))
    by same true = ap suc same
    by same false = same
