-- A run that goes on.
use Rattle.std.proofs.Common.{◌≡◌, ℕ, zero, suc, ◌+◌, ◌-◌, ◌<◌, ◌≤◌, List, [], ◌∷◌, ◌++◌, length, take, drop, get_or, refl, sym, ap, ◌∙◌, subst, arith, Option, Some, Result, Ok, Err}
use Rattle.std.specs.Prelude.{slice_get, unwrap_or}
use Rattle.std.specs.List.{AllByRecursion}
use Rattle.std.proofs.lemmas.List.{length-drop, take_all, take_more}
use Rattle.dispatch.specs.Runs.{Runs, RunsOrFails}

-- one thing more
pub runs-more : {S A : Type 0} (R : S → A → S → Type 0) (xs : List A) (x : A) (s m t : S) → Runs R xs s m → R m x t → Runs R (xs ++ x ∷ []) s t
unfolding Runs
runs-more R [] x s m t run step = (t, subst (λ q. R q x t) run step, refl)
runs-more R (y ∷ xs) x s m t run step = (run.0, run.1, runs-more R xs x run.0 m t run.2 step)

pub runs-take : {S A : Type 0} (R : S → A → S → Type 0) (xs : List A) (i : ℕ) (x : A) (s m t : S) → i < length xs → x ≡ get_or xs i x → Runs R (take i xs) s m → R m x t → Runs R (take (i + 1) xs) s t
runs-take {A = A} R xs i x s m t below is run step =
    subst (λ (l : List A). Runs R l s t) (sym (take_more xs i x below ∙ ap (λ y. take i xs ++ y ∷ []) (sym is))) (runs-more R (take i xs) x s m t run step)

pub runs-none : {S A : Type 0} (R : S → A → S → Type 0) (s : S) → Runs R [] s s
unfolding Runs
runs-none R s = refl

-- ---- how far a list was gone through

front : {A : Type 0} (done rest : List A) → take (length done) (done ++ rest) ≡ done
front [] rest = refl
front (x ∷ done) rest = ap (λ l. x ∷ l) (front done rest)

pub take-done : {A : Type 0} (all done rest : List A) → all ≡ done ++ rest → take (length done) all ≡ done
take-done all done rest split = ap (take (length done)) split ∙ front done rest

next : {A : Type 0} (done left : List A) (x : A) → slice_get (done ++ x ∷ left) (length done) ≡ Some x
next [] left x = refl
next (y ∷ done) left x = next done left x

pub get-next : {A : Type 0} (all done rest left : List A) (x : A) → all ≡ done ++ rest → rest ≡ x ∷ left → slice_get all (length done) ≡ Some x
get-next all done rest left x split now = ap (λ l. slice_get l (length done)) (split ∙ ap (λ l. done ++ l) now) ∙ next done left x

at-next : {A : Type 0} (P : A → Type 0) (done left : List A) (x : A) → AllByRecursion P (done ++ x ∷ left) → P x
at-next P [] left x all = all.0
at-next P (y ∷ done) left x all = at-next P done left x all.1

pub all-next : {A : Type 0} (P : A → Type 0) (all done rest left : List A) (x : A) → all ≡ done ++ rest → rest ≡ x ∷ left → AllByRecursion P all → P x
all-next P all done rest left x split now each = at-next P done left x (subst (AllByRecursion P) (split ∙ ap (λ l. done ++ l) now) each)

-- one element more
take-next : {A : Type 0} (n : ℕ) (xs : List A) (x : A) → slice_get xs n ≡ Some x → take (n + 1) xs ≡ take n xs ++ x ∷ []
take-next n [] x is = absurd (cc is)
take-next {A} zero (y ∷ ys) x is = ap (λ (o : Option A). unwrap_or o y ∷ []) is
take-next {A} (suc n) (y ∷ ys) x is =
    let more : suc n + 1 ≡ suc (n + 1) = omega arith in
    ap (λ k. take k (y ∷ ys)) more ∙ ap (λ l. y ∷ l) (take-next n ys x is)

get-from : {A : Type 0} (from i : ℕ) (xs : List A) → from ≤ i → slice_get (drop from xs) (i - from) ≡ slice_get xs i
get-from zero i xs below = let same : i - 0 ≡ i = omega arith in ap (slice_get xs) same
get-from (suc from) i [] below = refl
get-from (suc from) (suc i) (x ∷ xs) below =
    let less : suc i - suc from ≡ i - from = omega arith in
    ap (slice_get (drop (suc from) (x ∷ xs))) less ∙ get-from from i xs (omega (arith, below))
get-from (suc from) zero (x ∷ xs) below = absurd (omega (arith, below))

pub get-some : {A : Type 0} (xs : List A) (i : ℕ) → i < length xs → (x : A) × (slice_get xs i ≡ Some x)
get-some [] i below = absurd (omega (arith, below))
get-some (x ∷ xs) zero below = (x, refl)
get-some (x ∷ xs) (suc i) below = get-some xs i (omega (arith, below))

pub get-read : {A : Type 0} (xs : List A) (i : ℕ) (x : A) → i < length xs → x ≡ get_or xs i x → slice_get xs i ≡ Some x
get-read [] i x below is = absurd (omega (arith, below))
get-read (y ∷ ys) zero x below is = ap Some (sym is)
get-read (y ∷ ys) (suc i) x below is = get-read ys i x (omega (arith, below)) is

-- a run over what stands from a place on, to one element more, to one that fails, or to its end
pub runs-on : {S A : Type 0} (R : S → A → S → Type 0) (from i : ℕ) (xs : List A) (x : A) (s m t : S) → from ≤ i → slice_get xs i ≡ Some x → Runs R (take (i - from) (drop from xs)) s m → R m x t
    → Runs R (take (i + 1 - from) (drop from xs)) s t
runs-on {S} {A} R from i xs x s m t below is run step =
    let more : i + 1 - from ≡ (i - from) + 1 = omega (arith, below) in
    subst (λ (l : List A). Runs R l s t) (sym (ap (λ n. take n (drop from xs)) more ∙ take-next (i - from) (drop from xs) x (get-from from i xs below ∙ is)))
    (runs-more R (take (i - from) (drop from xs)) x s m t run step)

pub run-fails : {S A E : Type 0} (R : S → A → Result (Unit {0}) E → S → Type 0) (from i : ℕ) (xs : List A) (x : A) (s m t : S) (e : E) → from ≤ i → slice_get xs i ≡ Some x
    → Runs (λ a x b. R a x (Ok tt) b) (take (i - from) (drop from xs)) s m → R m x (Err e) t → RunsOrFails R (drop from xs) s (Err e) t
run-fails R from i xs x s m t e below is run fails = (i - from, (m, run, x, get-from from i xs below ∙ is, fails))

pub run-ends : {S A : Type 0} (R : S → A → S → Type 0) (from i : ℕ) (xs : List A) (s t : S) → length xs ≤ i → Runs R (take (i - from) (drop from xs)) s t → Runs R (drop from xs) s t
run-ends {S} {A} R from i xs s t past run =
    let long : length (drop from xs) ≤ i - from = omega (arith, length-drop from xs, past) in
    subst (λ (l : List A). Runs R l s t) (take_all (i - from) (drop from xs) long) run

-- ---- what holds of each

pub all-take : {A : Type 0} (P : A → Type 0) (n : ℕ) (xs : List A) → AllByRecursion P xs → AllByRecursion P (take n xs)
all-take P zero xs all = tt
all-take P (suc n) [] all = tt
all-take P (suc n) (x ∷ xs) all = (all.0, all-take P n xs all.1)

pub all-at : {A : Type 0} (P : A → Type 0) (xs : List A) (n : ℕ) (x : A) → slice_get xs n ≡ Some x → AllByRecursion P xs → P x
all-at {A = A} P [] n x is all = absurd (cc is)
all-at {A = A} P (y ∷ ys) zero x is all = subst P (ap (λ (o : Option A). unwrap_or o y) is) all.0
all-at {A = A} P (y ∷ ys) (suc n) x is all = all-at P ys n x is all.1

-- what each step keeps, a run keeps
pub run-keeps : {S A : Type 0} (R : S → A → S → Type 0) (P : A → Type 0) (K : S → Type 0) → ((s t : S) (x : A) → P x → K s → R s x t → K t)
    → (xs : List A) (s t : S) → AllByRecursion P xs → K s → Runs R xs s t → K t
unfolding Runs
run-keeps R P K keeps [] s t all was run = subst K (sym run) was
run-keeps R P K keeps (x ∷ xs) s t all was run = run-keeps R P K keeps xs run.0 t all.1 (keeps s run.0 x all.0 was run.1) run.2
