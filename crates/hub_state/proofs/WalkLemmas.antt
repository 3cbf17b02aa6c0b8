-- Walks that gather what each gives, or keep what passes.
use Rattle.std.proofs.Common.{◌≡◌, ℕ, ◌+◌, ◌<◌, Bool, List, [], ◌∷◌, ◌++◌, length, take, map, filter, cond, true, false, refl, if◌then◌else◌, get_or, sym, ◌∙◌, ap}
use Rattle.std.specs.List.{flat_map}
use Rattle.std.proofs.lemmas.List.{take_more, flat_map_more, map_more}
use Rattle.std.proofs.lemmas.List.Elements.{filter_more}

-- one more is gathered
pub gathered : {X A : Type 0} (f : X → List A) (xs : List X) (i : ℕ) (x : X) (old new : List A) → i < length xs → x ≡ get_or xs i x
    → old ≡ flat_map f (take i xs) → new ≡ old ++ f x → new ≡ flat_map f (take (i + 1) xs)
gathered f xs i x old new low is so_far step =
    let more : take (i + 1) xs ≡ take i xs ++ x ∷ [] = take_more xs i x low ∙ ap (λ y. take i xs ++ y ∷ []) (sym is) in
    step ∙ ap (λ ys. ys ++ f x) so_far ∙ flat_map_more f [] (take i xs) x ∙ ap (flat_map f) (sym more)

-- one more is turned into another
pub mapped : {X A : Type 0} (f : X → A) (xs : List X) (i : ℕ) (x : X) (old new : List A) → i < length xs → x ≡ get_or xs i x
    → old ≡ map f (take i xs) → new ≡ old ++ f x ∷ [] → new ≡ map f (take (i + 1) xs)
mapped f xs i x old new low is so_far step =
    step ∙ ap (λ ys. ys ++ f x ∷ []) so_far ∙ sym (map_more f xs i x low ∙ ap (λ y. map f (take i xs) ++ f y ∷ []) (sym is))

-- one more is kept, where it passes
pub sifted : {X : Type 0} (p : X → Bool) (xs : List X) (i : ℕ) (x : X) (old new : List X) → i < length xs → x ≡ get_or xs i x
    → old ≡ filter p (take i xs) → new ≡ old ++ (if p x then x ∷ [] else []) → new ≡ filter p (take (i + 1) xs)
sifted p xs i x old new low is so_far step =
    step ∙ ap (λ ys. ys ++ (if p x then x ∷ [] else [])) so_far
    ∙ sym (filter_more p xs i x low ∙ ap (λ y. filter p (take i xs) ++ cond (p y) (y ∷ []) []) (sym is) ∙ same (p x))
  where
    same : (b : Bool) → filter p (take i xs) ++ cond b (x ∷ []) [] ≡ filter p (take i xs) ++ (if b then x ∷ [] else [])
    same true = refl
    same false = refl
