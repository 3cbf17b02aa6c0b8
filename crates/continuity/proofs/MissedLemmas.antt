-- What the log of a legal journal has past an offset that stands in it, of the journal's own broadcasts.
use Rattle.std.proofs.Common.{suc, ◌≡◌, ◌⊎◌, inl, inr, ℕ, ◌+◌, ◌<◌, ◌≤◌, ◌==◌, Bool, true, false, ◌||◌, List, [], ◌∷◌, ◌++◌, length, filter, map, refl, sym, ◌∙◌, ap, subst, arith, if◌then◌else◌, nat_lt, append_assoc}
use Rattle.std.specs.List.{AllByRecursion}
use Rattle.std.proofs.lemmas.Bool.{eqb-true, eq-eqb}
use Rattle.std.proofs.lemmas.Bool.Decides.{nat_tests}
use Rattle.std.proofs.lemmas.List.{map-append}
use Rattle.std.proofs.lemmas.List.Elements.{filter-append}
use Rattle.recovery.specs.PacketLog.{PlainLogged, number_of, stands, later_than, IsRun, kept}
use Rattle.recovery.proofs.PacketLogLemmas.{kept_suffix}
use Rattle.journal.specs.declared.step.Step.{Step}
use Rattle.journal.specs.Plain.{PlainBase, Limits}
use Rattle.journal.specs.Log.{log_calls, log, next_number}
use Rattle.continuity.specs.Heard.{has, all_given}
use Rattle.continuity.proofs.LogLemmas.{IsOrderly, casts, offset_of, all-given-are, has-append, either-end, stands-high, earlier, front-low, below, not-below}

-- ---- lists of offsets

filter-none : (L xs : List ℕ) → AllByRecursion (λ x. has L x ≡ false) xs → filter (has L) xs ≡ []
filter-none L [] h = refl
filter-none L (x ∷ xs) h = rw (h.0) (filter-none L xs h.1)

filter-all : (L xs : List ℕ) → AllByRecursion (λ x. has L x ≡ true) xs → filter (has L) xs ≡ xs
filter-all L [] h = refl
filter-all L (x ∷ xs) h = rw (h.0) (ap (λ l. x ∷ l) (filter-all L xs h.1))

-- what is true of the offsets of all is true of those of some
of-some : (P : ℕ → Type 0) (q : PlainLogged → Bool) (es : List PlainLogged) → AllByRecursion (λ (e : PlainLogged). P e.offset) es → AllByRecursion (λ (e : PlainLogged). P e.offset) (filter q es)
of-some P q [] h = tt
of-some P q (e ∷ es) h = on (q e) (of-some P q es h.1)
  where
    on : (b : Bool) → AllByRecursion (λ (e : PlainLogged). P e.offset) (filter q es) → AllByRecursion (λ (e : PlainLogged). P e.offset) (if b then e ∷ filter q es else filter q es)
    on true rest = (h.0, rest)
    on false rest = rest

of-offsets : (P : ℕ → Type 0) (es : List PlainLogged) → AllByRecursion (λ (e : PlainLogged). P e.offset) es → AllByRecursion P (map offset_of es)
of-offsets P [] h = tt
of-offsets P (e ∷ es) h = (h.0, of-offsets P es h.1)

-- each number of a list is one of it
all-had : (ys xs : List ℕ) → AllByRecursion (λ x. has (ys ++ xs) x ≡ true) xs
all-had ys [] = tt
all-had ys (x ∷ xs) = (
  has-append ys (x ∷ xs) x ∙ ap (λ b. has ys x || (b || has xs x)) (eq-eqb x x refl) ∙ either (has ys x),
  subst (λ l. AllByRecursion (λ z. has l z ≡ true) xs) (append_assoc ys (x ∷ []) xs) (all-had (ys ++ x ∷ []) xs),
)
  where
    either : (b : Bool) → (b || true) ≡ true
    either true = refl
    either false = refl

to-logged : (P : ℕ → Type 0) (es : List PlainLogged) → AllByRecursion P (map offset_of es) → AllByRecursion (λ (e : PlainLogged). P e.offset) es
to-logged P [] h = tt
to-logged P (e ∷ es) h = (h.0, to-logged P es h.1)

-- the offsets of those past an offset that pass
abbrev pub past : ℕ → (PlainLogged → Bool) → List PlainLogged → List ℕ
past o q es = map offset_of (filter q (later_than o es))

pub past-append : (o : ℕ) (q : PlainLogged → Bool) (xs ys : List PlainLogged) → past o q (xs ++ ys) ≡ past o q xs ++ past o q ys
past-append o q xs ys =
    ap (λ l. map offset_of (filter q l)) (filter-append (λ (e : PlainLogged). nat_lt o e.offset) xs ys)
    ∙ ap (map offset_of) (filter-append q (later_than o xs) (later_than o ys))
    ∙ map-append offset_of (filter q (later_than o xs)) (filter q (later_than o ys))

-- ---- bounds of the journal's offsets

run-above : (n : ℕ) (xs : List PlainLogged) → IsRun n xs → AllByRecursion (λ (e : PlainLogged). n ≤ e.offset + length xs) xs
unfolding IsRun
run-above n [] run = tt
run-above n (x ∷ xs) run = (omega (arith, run.0), more xs (run-above n xs run.1))
  where
    more : (ys : List PlainLogged) → AllByRecursion (λ (e : PlainLogged). n ≤ e.offset + length xs) ys → AllByRecursion (λ (e : PlainLogged). n ≤ e.offset + suc (length xs)) ys
    more [] h = tt
    more (y ∷ ys) h = (omega (arith, h.0), more ys h.1)

pub run-below : (n : ℕ) (xs : List PlainLogged) → IsRun n xs → AllByRecursion (λ (e : PlainLogged). e.offset < n) xs
unfolding IsRun
run-below n [] run = tt
run-below n (x ∷ xs) run = (omega (arith, run.0), run-below n xs run.1)

-- what is true of all numbers of a list is true of one of them
pub of-had : (P : ℕ → Type 0) (xs : List ℕ) (o : ℕ) → AllByRecursion P xs → has xs o ≡ true → P o
of-had P [] o h e = absurd (cc e)
of-had P (x ∷ xs) o h e = on (x == o) refl e (of-had P xs o h.1)
  where
    on : (b : Bool) → (x == o) ≡ b → (b || has xs o) ≡ true → (has xs o ≡ true → P o) → P o
    on true is e rest = subst P (eqb-true x o is) h.0
    on false is e rest = rest e

-- an offset that stands in a run is below its end
pub stands-below : (n o : ℕ) (es : List PlainLogged) → IsRun n es → stands o es ≡ true → o < n
unfolding IsRun
stands-below n o [] run e = absurd (cc e)
stands-below n o (x ∷ es) run e = on (x.offset == o) refl e (stands-below n o es run.1)
  where
    on : (b : Bool) → (x.offset == o) ≡ b → (b || stands o es) ≡ true → (stands o es ≡ true → o < n) → o < n
    on true is e rest = let same : x.offset ≡ o = eqb-true x.offset o is in omega (arith, same, run.0)
    on false is e rest = rest e

-- each number from one of a run to its end stands in it
pub run-holds : (n x : ℕ) (es : List PlainLogged) → IsRun n es → n ≤ x + length es → x < n → stands x es ≡ true
unfolding IsRun
run-holds n x [] run high low = absurd (omega (arith, high, low))
run-holds n x (e ∷ es) run high low = on (e.offset == x) refl (run-holds n x es run.1)
  where
    further : (e.offset == x) ≡ false → n ≤ x + length es
    further other = let more : e.offset < x = (let le : e.offset ≤ x = omega (arith, high, run.0) in grind (arith, nat_tests, le, other)) in omega (arith, more, run.0)

    on : (b : Bool) → (e.offset == x) ≡ b → (n ≤ x + length es → x < n → stands x es ≡ true) → (b || stands x es) ≡ true
    on true is rest = refl
    on false is rest = rest (further is) low

-- no number under all of a list is one of it
has-none : (o m : ℕ) (xs : List ℕ) → AllByRecursion (λ x. m ≤ x) xs → o < m → has xs o ≡ false
has-none o m [] h low = refl
has-none o m (x ∷ xs) h low = let other : (x == o) ≡ false = (let le = h.0 in grind (arith, nat_tests, le, low)) in ap (λ b. b || has xs o) other ∙ has-none o m xs h.1 low

all-later : (o : ℕ) (es : List PlainLogged) → AllByRecursion (λ (e : PlainLogged). o < e.offset) es → later_than o es ≡ es
all-later o [] h = refl
all-later o (e ∷ es) h = ap (λ b. if b then e ∷ later_than o es else later_than o es) (below o e.offset h.0) ∙ ap (λ l. e ∷ l) (all-later o es h.1)

run-none : (n o : ℕ) (es : List PlainLogged) → IsRun n es → n ≤ o + 1 → later_than o es ≡ []
unfolding IsRun
run-none n o [] run high = refl
run-none n o (e ∷ es) run high =
    let low : e.offset ≤ o = omega (arith, run.0, high) in
    ap (λ b. if b then e ∷ later_than o es else later_than o es) (not-below o e.offset low) ∙ run-none n o es run.1 high

all-to : {A : Type 0} (P Q : A → Type 0) → ((x : A) → P x → Q x) → (xs : List A) → AllByRecursion P xs → AllByRecursion Q xs
all-to P Q to [] h = tt
all-to P Q to (x ∷ xs) h = (to x h.0, all-to P Q to xs h.1)

module _ (base : PlainBase) (limits : Limits) (journal : List Step) (is : IsOrderly base limits journal) where
  -- the journal's offsets begin with the base's next
  pub casts-above : AllByRecursion (λ (e : PlainLogged). number_of base.next ≤ e.offset) (casts journal)
  casts-above =
      let n = is.number in
      all-to (λ (e : PlainLogged). next_number base journal ≤ e.offset + length (casts journal)) (λ (e : PlainLogged). number_of base.next ≤ e.offset) (λ e h. omega (arith, h, n)) (casts journal)
      (run-above (next_number base journal) (casts journal) is.casts_run)

  pub given-above : AllByRecursion (λ x. number_of base.next ≤ x) (all_given journal)
  given-above = subst (AllByRecursion (λ x. number_of base.next ≤ x)) (sym (all-given-are journal)) (of-offsets (λ x. number_of base.next ≤ x) (casts journal) casts-above)

  -- and end below the next
  pub given-below : AllByRecursion (λ x. x < next_number base journal) (all_given journal)
  given-below =
      subst (AllByRecursion (λ x. x < next_number base journal)) (sym (all-given-are journal))
      (of-offsets (λ x. x < next_number base journal) (casts journal) (run-below (next_number base journal) (casts journal) is.casts_run))

  -- what stood in the base's log is none of them
  pub none-given : (o : ℕ) → o < number_of base.next → has (all_given journal) o ≡ false
  none-given o low = has-none o (number_of base.next) (all_given journal) given-above low

  -- all come past what stood in the base's log
  pub casts-past : (o : ℕ) → o < number_of base.next → later_than o (casts journal) ≡ casts journal
  casts-past o low = all-later o (casts journal) (all-to (λ (e : PlainLogged). number_of base.next ≤ e.offset) (λ (e : PlainLogged). o < e.offset) (λ e h. omega (arith, h, low)) (casts journal) casts-above)

  -- none comes past the newest
  pub casts-none : (o : ℕ) → next_number base journal ≤ o + 1 → later_than o (casts journal) ≡ []
  casts-none o high = run-none (next_number base journal) o (casts journal) is.casts_run high

  all-given-had : AllByRecursion (λ (e : PlainLogged). has (all_given journal) e.offset ≡ true) (casts journal)
  all-given-had = subst (λ l. AllByRecursion (λ (e : PlainLogged). has l e.offset ≡ true) (casts journal)) (sym (all-given-are journal)) (to-logged (λ x. has (map offset_of (casts journal)) x ≡ true) (casts journal) (all-had [] (map offset_of (casts journal))))

  own-past : (o : ℕ) (q : PlainLogged → Bool) → filter (has (all_given journal)) (past o q (casts journal)) ≡ past o q (casts journal)
  own-past o q =
      filter-all (all_given journal) (past o q (casts journal))
      (of-offsets (λ x. has (all_given journal) x ≡ true) (filter q (later_than o (casts journal)))
      (of-some (λ x. has (all_given journal) x ≡ true) q (later_than o (casts journal)) (of-some (λ x. has (all_given journal) x ≡ true) (λ e. nat_lt o e.offset) (casts journal) all-given-had)))

  ends-alike : ((zs : List PlainLogged) × (casts journal ≡ zs ++ log base limits journal)) ⊎ ((zs : List PlainLogged) × (log base limits journal ≡ zs ++ casts journal))
  unfolding log
  ends-alike =
      let split = kept_suffix limits.log limits.log_bytes (log_calls base limits journal) is.rises in
      either-end base.log (casts journal) split.0 (kept limits.log limits.log_bytes (log_calls base limits journal)) (sym is.pushed_are ∙ split.1)

  -- past an offset that stands in the log, it has of the journal's broadcasts all
  pub own-missed : (o : ℕ) (q : PlainLogged → Bool) → stands o (log base limits journal) ≡ true
      → filter (has (all_given journal)) (past o q (log base limits journal)) ≡ past o q (casts journal)
  own-missed o q there = on ends-alike
    where
      on : ((zs : List PlainLogged) × (casts journal ≡ zs ++ log base limits journal)) ⊎ ((zs : List PlainLogged) × (log base limits journal ≡ zs ++ casts journal))
          → filter (has (all_given journal)) (past o q (log base limits journal)) ≡ past o q (casts journal)
      on (inl z) =
          let high = stands-high (next_number base journal) o (log base limits journal) is.run there in
          let front : later_than o z.0 ≡ [] = earlier (next_number base journal) o z.0 (log base limits journal) (subst (IsRun (next_number base journal)) z.1 is.casts_run) high in
          let same : past o q (casts journal) ≡ past o q (log base limits journal)
          = ap (past o q) z.1 ∙ past-append o q z.0 (log base limits journal) ∙ ap (λ l. map offset_of (filter q l) ++ past o q (log base limits journal)) front in
          ap (filter (has (all_given journal))) (sym same) ∙ own-past o q
      on (inr z) =
          let n = is.number in
          let low : AllByRecursion (λ (e : PlainLogged). has (all_given journal) e.offset ≡ false) z.0
          = all-to (λ (e : PlainLogged). e.offset + length (casts journal) < next_number base journal) (λ (e : PlainLogged). has (all_given journal) e.offset ≡ false)
          (λ e h. none-given e.offset (omega (arith, h, n))) z.0
          (front-low (next_number base journal) z.0 (casts journal) (subst (IsRun (next_number base journal)) z.1 is.run)) in
          let none : filter (has (all_given journal)) (past o q z.0) ≡ []
          = filter-none (all_given journal) (past o q z.0)
          (of-offsets (λ x. has (all_given journal) x ≡ false) (filter q (later_than o z.0))
          (of-some (λ x. has (all_given journal) x ≡ false) q (later_than o z.0) (of-some (λ x. has (all_given journal) x ≡ false) (λ e. nat_lt o e.offset) z.0 low))) in
          ap (λ l. filter (has (all_given journal)) (past o q l)) z.1
          ∙ ap (filter (has (all_given journal))) (past-append o q z.0 (casts journal))
          ∙ filter-append (has (all_given journal)) (past o q z.0) (past o q (casts journal))
          ∙ ap (λ l. l ++ filter (has (all_given journal)) (past o q (casts journal))) none
          ∙ own-past o q

module _ (base : PlainBase) (limits : Limits) (journal : List Step) (is : IsOrderly base limits journal) (first : IsOrderly base limits []) where
  later-below : (later : ℕ) (b : Bool) → has (all_given journal) later ≡ b → (b || stands later (log base limits [])) ≡ true → later < next_number base journal
  unfolding casts
  later-below later true given e = of-had (λ x. x < next_number base journal) (all_given journal) later (given-below base limits journal is) given
  later-below later false given e =
      let low = stands-below (next_number base []) later (log base limits []) first.run e in
      let none = first.number in
      let n = is.number in
      omega (arith, low, none, n)

  -- what the log reaches back to, it has whole
  pub whole-after : (offset later : ℕ) → stands offset (log base limits journal) ≡ true → offset < later → (has (all_given journal) later || stands later (log base limits [])) ≡ true → stands later (log base limits journal) ≡ true
  whole-after offset later there after e =
      let reach = stands-high (next_number base journal) offset (log base limits journal) is.run there in
      run-holds (next_number base journal) later (log base limits journal) is.run (omega (arith, reach, after)) (later-below later (has (all_given journal) later) refl e)
