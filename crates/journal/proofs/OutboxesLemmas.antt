-- What one more step makes of what waits for a client.
use Rattle.std.proofs.Common.{take, zero, suc, add-one, ◌≡◌, ℕ, ◌+◌, ◌-◌, ◌≤◌, ◌==◌, Bool, true, false, List, [], ◌∷◌, ◌++◌, length, drop, refl, sym, ◌∙◌, ap, subst, arith, if◌then◌else◌, append-nil, length-append}
use Rattle.std.proofs.lemmas.List.{drop-append-le, drop-drop, length-drop, map-append}
use Rattle.std.proofs.lemmas.Bool.{eqb-true}
use Rattle.std.proofs.lemmas.List.Sums.{sum_by_push, sum_by-cons}
use Rattle.std.specs.Prelude.{map, Some, slice_get}
use Rattle.std.specs.List.{sum_by}
use Rattle.terms.specs.Entry.{entry_size}
use Rattle.terms.specs.declared.entry.Entry.{Entry}
use Rattle.journal.specs.declared.step.Step.{Step}
use Rattle.journal.specs.declared.step.What.{What}
use Rattle.journal.specs.declared.step.What.TheVariants.{Took}
use Rattle.journal.specs.Plain.{PlainBase, Limits}
use Rattle.journal.specs.Outboxes.{put, entries_for, begins, taken_by, placements, taken, waiting, total_size}
use Rattle.journal.specs.Legal.{IsAllowed, IsLegal}

-- no more was taken than was placed
taken-after : {A : Type 0} (t n : ℕ) (ps more : List A) → t ≤ length ps → n ≤ length (drop t ps) → t + n ≤ length (ps ++ more)
taken-after t n ps more h k = let e : length (drop t ps) ≡ length ps - t = length-drop t ps in omega (arith, length-append ps more)

module _ (base : PlainBase) (limits : Limits) where
  -- what an accepted step takes of a client waits there
  pub taken_by-fits : (c : ℕ) (step : Step) (before : List Step) (what : What) → IsAllowed base limits before step what → taken_by c what ≤ length (waiting base limits before c)
  taken_by-fits c step before (Took d m n) h = took (d == c) refl
    where
      took : (b : Bool) → (d == c) ≡ b → (if b then n else 0) ≤ length (waiting base limits before c)
      took true e = let same : d ≡ c = eqb-true d c e in subst (λ x. n ≤ length (waiting base limits before x)) same (omega (arith, h.1))
      took false e = omega arith
  taken_by-fits c step before _ h = omega arith

  -- in a legal journal no more was taken than was placed
  pub taken-within : (journal : List Step) → IsLegal base limits journal → (c : ℕ) → taken base journal c ≤ length (placements base limits journal c)
  unfolding taken placements waiting IsLegal
  taken-within [] legal c = omega arith
  taken-within (step ∷ before) legal c = elim (begins c step.what) as (λ b. (if b then 0 else taken base before c + taken_by c step.what) ≤ length (if b then [] else placements base limits before c ++ entries_for c (put base limits before step.what))) [
    | true ↦ omega arith
    | false ↦ taken-after (taken base before c) (taken_by c step.what) (placements base limits before c) (entries_for c (put base limits before step.what)) (taken-within before legal.2 c) (taken_by-fits c step before step.what legal.0)
  ]

  -- what waits after a step: what waited and what is put, without what is handed out
  pub waiting-step : (step : Step) (before : List Step) → IsLegal base limits before → (c : ℕ) → begins c step.what ≡ false
      → waiting base limits (step ∷ before) c ≡ drop (taken_by c step.what) (waiting base limits before c ++ entries_for c (put base limits before step.what))
  unfolding waiting taken placements
  waiting-step step before legal c e =
      rw e (sym (drop-drop (taken_by c step.what) (taken base before c) (placements base limits before c ++ entries_for c (put base limits before step.what)))
      ∙ ap (drop (taken_by c step.what)) (drop-append-le (taken base before c) (placements base limits before c) (entries_for c (put base limits before step.what)) (taken-within before legal c)))

  -- nothing waits for a client that was opened just now
  pub waiting-begins : (step : Step) (before : List Step) (c : ℕ) → begins c step.what ≡ true → waiting base limits (step ∷ before) c ≡ []
  unfolding waiting taken placements
  waiting-begins step before c e = rw e refl

  -- nothing was put for the client, and nothing was handed out to it
  pub waiting-quiet : (step : Step) (before : List Step) → IsLegal base limits before → (c : ℕ) → begins c step.what ≡ false → taken_by c step.what ≡ 0 → entries_for c (put base limits before step.what) ≡ []
      → waiting base limits (step ∷ before) c ≡ waiting base limits before c
  waiting-quiet step before legal c b t p =
      waiting-step step before legal c b
      ∙ ap (λ n. drop n (waiting base limits before c ++ entries_for c (put base limits before step.what))) t
      ∙ ap (λ l. waiting base limits before c ++ l) p
      ∙ append-nil (waiting base limits before c)

  pub flow : (step : Step) (before : List Step) → IsLegal base limits before → IsAllowed base limits before step step.what → (c : ℕ) → begins c step.what ≡ false
      → length (waiting base limits (step ∷ before) c) + taken_by c step.what ≡ length (waiting base limits before c) + length (entries_for c (put base limits before step.what))
  flow step before legal allowed c e =
      let w = ap length (waiting-step step before legal c e) in
      let d = length-drop (taken_by c step.what) (waiting base limits before c ++ entries_for c (put base limits before step.what)) in
      let a = length-append (waiting base limits before c) (entries_for c (put base limits before step.what)) in
      let fits = taken_by-fits c step before step.what allowed in
      omega (arith, w, d, a, fits)

-- ---- the bytes of an outbox

pub total_size-push : {A : Type 0} (value : A → Entry) (es : List A) (e : A) → total_size (map value (es ++ e ∷ [])) ≡ total_size (map value es) + entry_size (value e)
unfolding total_size
total_size-push value es e = ap (sum_by entry_size) (map-append value es (e ∷ [])) ∙ sum_by_push entry_size (map value es) (value e)

pub total_size-front : {A : Type 0} (value : A → Entry) (es : List A) (e : A) → Some e ≡ slice_get es 0 → entry_size (value e) + total_size (map value (drop 1 es)) ≡ total_size (map value es)
unfolding total_size
total_size-front value [] e is = cc
total_size-front value (x ∷ es) e is = let same : e ≡ x = cc in ap (λ z. entry_size (value z) + sum_by entry_size (map value es)) same ∙ sym (sum_by-cons entry_size (value x) (map value es))

take_after : {A : Type 0} (xs : List A) (i : ℕ) (x : A) → Some x ≡ slice_get xs i → take (suc i) xs ≡ take i xs ++ x ∷ []
take_after [] zero x e = cc
take_after [] (suc i) x e = cc
take_after (y ∷ xs) zero x e = let same : x ≡ y = cc in ap (λ z. z ∷ []) (sym same)
take_after (y ∷ xs) (suc i) x e = ap (λ l. y ∷ l) (take_after xs i x e)

-- one more of the first items
pub take_next : {A : Type 0} (xs : List A) (i : ℕ) (x : A) → Some x ≡ slice_get xs i → take (i + 1) xs ≡ take i xs ++ x ∷ []
take_next xs i x e = rw add-one (take_after xs i x e)

-- what was put takes its bytes from those that are free
pub put_free : {A : Type 0} (value : A → Entry) (items : List A) (e : A) (bytes free left : ℕ) → free + total_size (map value items) ≡ bytes → left + entry_size (value e) ≡ free
    → left + total_size (map value (items ++ e ∷ [])) ≡ bytes
put_free value items e bytes free left was some = let more = total_size-push value items e in omega (arith, was, some, more)

-- what is taken away gives its bytes back
pub popped_fits : {A : Type 0} (value : A → Entry) (items : List A) (e : A) (bytes free : ℕ) → free + total_size (map value items) ≡ bytes → Some e ≡ slice_get items 0 → free + entry_size (value e) ≤ bytes
popped_fits value items e bytes free was is = let front = total_size-front value items e is in omega (arith, was, front)

pub popped_free : {A : Type 0} (value : A → Entry) (items : List A) (e : A) (bytes free : ℕ) → free + total_size (map value items) ≡ bytes → Some e ≡ slice_get items 0
    → free + entry_size (value e) + total_size (map value (drop 1 items)) ≡ bytes
popped_free value items e bytes free was is = let front = total_size-front value items e is in omega (arith, was, front)
