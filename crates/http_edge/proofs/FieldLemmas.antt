-- The values that fields have under one name.
use Rattle.std.proofs.Common.{Bor, ◌<◌, get_or, zero, suc, sym, ◌∙◌, ◌≡◌, ◌≤◌, ◌++◌, ℕ, List, [], ◌∷◌, Bool, true, false, length, map, refl, rules, arith, append-nil}
use Rattle.std.specs.Prelude.{IsTrue, ◌↔◌}
use Rattle.std.specs.List.{list_any}
use Rattle.std.specs.Char.{to_ascii_lowercase}
use Rattle.std.proofs.lemmas.Slice.Eq.{bytes_eq-Decides}
use Rattle.std.specs.Str.{str_eq_ignore_ascii_case}
use Rattle.std.proofs.lemmas.List.{map-append}
use Rattle.std.proofs.lemmas.List.Elements.{filter-append}
use Rattle.http_edge.specs.Request.{Fields, values}
use Rattle.http_edge.specs.Values.{TellsValues}
use Rattle.http_edge.specs.declared.head.Values.{Values}
use Rattle.http_edge.specs.declared.head.Values.TheVariants.{Nothing, One}

pub values_push : (name : List ℕ) (known : Fields) (p : List ℕ × List ℕ) → values name (known ++ p ∷ []) ≡ values name known ++ values name (p ∷ [])
values_push name known p = rw (filter-append, map-append) refl

-- the name is another
pub values_other : (name : List ℕ) (known : Fields) (p : List ℕ × List ℕ) → str_eq_ignore_ascii_case p.0 name ≡ false
    → values name (known ++ p ∷ []) ≡ values name known
values_other name known p other = rw (values_push name known p, other) (append-nil _)

-- the name is this one
pub values_same : (name : List ℕ) (known : Fields) (p : List ℕ × List ℕ) → str_eq_ignore_ascii_case p.0 name ≡ true
    → values name (known ++ p ∷ []) ≡ values name known ++ p.1 ∷ []
values_same name known p same = rw (values_push name known p, same) refl

-- the test of two names, as `eq_ignore_ascii_case` answers it
pub same_name : (r : Bool) (a b : List ℕ) → (IsTrue r ↔ (map to_ascii_lowercase a ≡ map to_ascii_lowercase b)) → str_eq_ignore_ascii_case a b ≡ r
same_name r a b test = grind (rules, bytes_eq-Decides, test)

pub other_kept : (found : Values) (r : Bool) (name : List ℕ) (known : Fields) (p : List ℕ × List ℕ) → r ≡ false → (n : List ℕ) → n ≡ p.0 → str_eq_ignore_ascii_case n name ≡ r
    → TellsValues found (values name known) → TellsValues found (values name (known ++ p ∷ []))
other_kept found r name known p off n at_name is told = rw (values_other name known p (rw (off, at_name) at is)) told

pub first_named : (found : Values) (r : Bool) (name : List ℕ) (known : Fields) (p : List ℕ × List ℕ) → r ≡ true → (n : List ℕ) → n ≡ p.0 → str_eq_ignore_ascii_case n name ≡ r
    → found ≡ Nothing → TellsValues found (values name known) → values name (known ++ p ∷ []) ≡ p.1 ∷ []
first_named found r name known p on n at_name is none told =
    let empty : values name known ≡ [] = rw none at told in
    rw (values_same name known p (rw (on, at_name) at is), empty) refl

pub second_named : (found : Values) (text : Bor (List ℕ)) (r : Bool) (name : List ℕ) (known : Fields) (p : List ℕ × List ℕ) → r ≡ true
    → (n : List ℕ) → n ≡ p.0 → str_eq_ignore_ascii_case n name ≡ r → found ≡ One text → TellsValues found (values name known) → 2 ≤ length (values name (known ++ p ∷ []))
second_named found text r name known p on n at_name is one told =
    let single : values name known ≡ text.now ∷ [] = rw one at told in
    rw (values_same name known p (rw (on, at_name) at is), single) (omega arith)

-- one of them passes the test
pub passes_at : {A B : Type 0} (f : A → B) (p : B → Bool) (xs : List A) (i : ℕ) (d : A) → i < length xs → p (f (get_or xs i d)) ≡ true
    → list_any p (map f xs) ≡ true
passes_at f p [] i d inside passes = absurd (omega (arith, inside))
passes_at f p (x ∷ xs) zero d inside passes = rw passes refl
passes_at f p (x ∷ xs) (suc i) d inside passes =
    let later = passes_at f p xs i d (omega (arith, inside)) passes in
    grind (rules, later)

pub passed_at : {A B : Type 0} (f : A → B) (p : B → Bool) (xs : List A) (i : ℕ) (d : A) (r : Bool) → r ≡ p (f (get_or xs i d)) → i < length xs → true ≡ r
    → true ≡ list_any p (map f xs)
passed_at f p xs i d r is inside passes = sym (passes_at f p xs i d inside (sym (passes ∙ is)))
