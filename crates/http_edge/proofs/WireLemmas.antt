-- What a read takes from bytes that are known.
use Rattle.std.proofs.Common.{◌≡◌, ◌≤◌, ◌<◌, ◌+◌, ℕ, List, ◌++◌, length, take, drop, Option, None, Some, Result, Ok, Err, refl, sym, append_assoc, arith, length-drop, length-take, length-append, min, ◌-◌, take-append-drop}
use Rattle.std.proofs.KnownBytes.{prepend_known-nil, Appends-kept, Appends-trans}
use Rattle.std.proofs.lemmas.List.{take-append-le, drop_all, drop-drop, take_all}
use Rattle.std.specs.Io.KnownBytes.{Consumes, ReadConsumes, Appends, Keeps, prepend_known}
use Rattle.std.specs.Result.{OnErr}
use Rattle.std.proofs.Math.Seq.{take-add}
use Rattle.http_edge.specs.Written.{AppendsFront}

-- the front of a list is what leaves it
pub consumes_front : (front rest : List ℕ) (o : Option (List ℕ)) → Consumes (prepend_known (front ++ rest) o) (prepend_known rest o) front
consumes_front front rest None = tt
consumes_front front rest (Some xs) = append_assoc front rest xs

-- with nothing left in front, the reader behind decides
pub reads_behind : {E : Type 0} (xs : List ℕ) (n : ℕ) (a b : Option (List ℕ)) (r : Result ℕ E) (buf : List ℕ) → length xs ≤ n
    → ReadConsumes a b r buf → ReadConsumes (prepend_known (drop n xs) a) (prepend_known (drop n xs) b) r buf
reads_behind xs n a b r buf past read = rw (drop_all n xs past, prepend_known-nil a, prepend_known-nil b) read

-- n bytes past the first s leave the front
pub reads_front : (xs tail given : List ℕ) (s n : ℕ) (o : Option (List ℕ)) → given ≡ take n (take (length xs - s) (drop s xs)) → length given ≡ n
    → Consumes (prepend_known (drop s xs) o) (prepend_known (drop (s + n) xs) o) (take n (given ++ tail))
reads_front xs tail given s n o is len =
    let rest : take (length xs - s) (drop s xs) ≡ drop s xs = take_all _ _ (search (arith, length-drop)) in
    let whole : drop s xs ≡ given ++ drop (s + n) xs = rw (is, rest, ← drop-drop n s xs, take-append-drop n (drop s xs)) refl in
    let taken : take n (given ++ tail) ≡ given = rw (take-append-le n given tail (omega (arith, len)), take_all n given (omega (arith, len))) refl in
    rw (taken, whole) (consumes_front given (drop (s + n) xs) o)

-- a read with space takes a byte while one is left
pub reads_some : {X : Type 0} (xs buf given : List ℕ) (s n : ℕ) → s < length xs → n ≡ min (length (take (length xs - s) (drop s xs))) (length buf)
    → length given ≡ n → n ≡ 0 → 0 < length (given ++ drop n buf) → X
reads_some xs buf given s n inside is len none free = absurd (grind (arith, length-drop, length-take, length-append, inside, is, len, none, free))

-- ---- writes

pub on_err : {A E : Type 0} (r : Result A E) (P : Type 0) → P → OnErr r P
on_err (Ok x) P p = tt
on_err (Err e) P p = p

-- a write that failed leaves what was written before it, a first part of the text
pub front_kept : (text : List ℕ) (n : ℕ) (a b c : Option (List ℕ)) → Appends a b (take n text) → Keeps b c → AppendsFront a c text
front_kept text n a b c before kept = (take n text, drop n text, sym (take-append-drop n text), Appends-kept a b c _ before kept)

-- a write of what is left that took k bytes has written n + k
pub written_more : (text : List ℕ) (n k : ℕ) (a b c : Option (List ℕ)) → n ≤ length text → k ≤ length (take (length text - n) (drop n text))
    → Appends a b (take n text) → Appends b c (take k (take (length text - n) (drop n text)))
    → (n + k ≤ length text) × Appends a c (take (n + k) text)
written_more text n k a b c inside bound before more =
    let rest : take (length text - n) (drop n text) ≡ drop n text = take_all _ _ (search (arith, length-drop)) in
    let fits : n + k ≤ length text = grind (arith, length-drop, length-take, inside, bound) in
    let more2 = rw rest at more in
    (fits, rw (take-add n k text) (Appends-trans a b c _ _ before more2))
