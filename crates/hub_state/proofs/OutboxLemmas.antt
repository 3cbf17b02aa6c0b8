-- What is taken away from the back of an outbox.
use Rattle.std.proofs.Common.{◌≡◌, ◌∙◌, ◌<◌, ◌≤◌, ◌+◌, ◌-◌, ℕ, zero, suc, List, ◌∷◌, ◌++◌, [], length, take, drop, map, slice_get, Option, Some, None, IfSome, IfNone, refl, sym, ap, arith}
use Rattle.std.specs.Option.{option_map, unwrap_or}
use Rattle.std.proofs.lemmas.List.{append_assoc, map-append, take_all, take-map, length-map}
use Rattle.terms.specs.Entry.{entry_size}
use Rattle.terms.specs.declared.entry.Entry.{Entry}
use Rattle.journal.specs.Outboxes.{total_size}
use Rattle.journal.proofs.OutboxesLemmas.{take_next, total_size-push}

-- a size that fits is known
pub known_size : (o : Option ℕ) (size : ℕ) → IfSome o (λ s. s ≡ size) → IfNone o (18446744073709551615 < size) → size ≤ 18446744073709551615 → unwrap_or o 0 ≡ size
known_size (Some s) size some none fits = some
known_size None size some none fits = absurd (omega (arith, none, fits))

-- the newest stands behind all others
newest_last : {A : Type 0} (xs : List A) (x : A) → Some x ≡ slice_get xs (length xs - 1) → xs ≡ take (length xs - 1) xs ++ x ∷ []
newest_last xs x is = sym (take_all (length xs - 1 + 1) xs (omega arith)) ∙ take_next xs (length xs - 1) x is

total_size-back : {A : Type 0} (value : A → Entry) (xs : List A) (x : A) → Some x ≡ slice_get xs (length xs - 1) → total_size (map value (take (length xs - 1) xs)) + entry_size (value x) ≡ total_size (map value xs)
total_size-back value xs x is = sym (ap (λ l. total_size (map value l)) (newest_last xs x is) ∙ total_size-push value (take (length xs - 1) xs) x)

-- what is taken away gives its bytes back
pub newest_fits : {A : Type 0} (value : A → Entry) (items : List A) (e : A) (bytes free : ℕ) → free + total_size (map value items) ≡ bytes → Some e ≡ slice_get items (length items - 1) → free + entry_size (value e) ≤ bytes
newest_fits value items e bytes free was is = let back = total_size-back value items e is in omega (arith, was, back)

pub newest_free : {A : Type 0} (value : A → Entry) (items : List A) (e : A) (bytes free : ℕ) → free + total_size (map value items) ≡ bytes → Some e ≡ slice_get items (length items - 1)
    → free + entry_size (value e) + total_size (map value (take (length items - 1) items)) ≡ bytes
newest_free value items e bytes free was is = let back = total_size-back value items e is in omega (arith, was, back)

-- all others are seen as they were
pub others_map : {A B : Type 0} (value : A → B) (items : List A) → map value (take (length items - 1) items) ≡ take (length (map value items) - 1) (map value items)
others_map value items = sym (ap (λ n. take (n - 1) (map value items)) (length-map items value) ∙ take-map value (length items - 1) items)

-- ---- what is taken out of the front

abbrev pub first_of : {A : Type 0} → Option A → List A
first_of None = []
first_of (Some x) = x ∷ []

step : {A : Type 0} (xs : List A) (i : ℕ) → take (suc i) xs ≡ take i xs ++ first_of (slice_get (drop i xs) 0)
step [] zero = refl
step [] (suc i) = refl
step (x ∷ xs) zero = refl
step (x ∷ xs) (suc i) = ap (λ ys. x ∷ ys) (step xs i)

-- one more is taken, if there is one
pub take_step : {A : Type 0} (xs : List A) (i : ℕ) → take (i + 1) xs ≡ take i xs ++ first_of (slice_get (drop i xs) 0)
take_step xs i = (let e : i + 1 ≡ suc i = omega arith in ap (λ n. take n xs) e) ∙ step xs i

first_of-map : {A B : Type 0} (value : A → B) (o : Option A) → map value (first_of o) ≡ first_of (option_map value o)
first_of-map value None = refl
first_of-map value (Some x) = refl

-- and a list has it at its end
pub taken_more : {A B : Type 0} (value : A → B) (got : Option A) (items more old : List A) (w left : List B) (i : ℕ) → more ≡ items ++ first_of got → option_map value got ≡ slice_get left 0 → left ≡ drop i w
    → map value items ≡ map value old ++ take i w → map value more ≡ map value old ++ take (i + 1) w
taken_more value got items more old w left i is first rest so_far =
    ap (map value) is ∙ map-append value items (first_of got) ∙ ap (λ l. map value items ++ l) (first_of-map value got ∙ ap first_of (first ∙ ap (λ l. slice_get l 0) rest))
    ∙ ap (λ l. l ++ first_of (slice_get (drop i w) 0)) so_far ∙ append_assoc (map value old) (take i w) (first_of (slice_get (drop i w) 0)) ∙ ap (λ l. map value old ++ l) (sym (take_step w i))
