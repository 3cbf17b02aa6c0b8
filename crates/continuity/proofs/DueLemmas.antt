-- What is due to a session past an offset that it names, where it kept its rooms since.
use Rattle.std.proofs.Common.{◌≡◌, ℕ, ◌<◌, ◌≤◌, ◌==◌, Bool, true, false, ◌&&◌, ◌||◌, List, [], ◌∷◌, ◌++◌, filter, map, refl, sym, ◌∙◌, ap, arith, if◌then◌else◌, Option, None, Some, append-nil, append_assoc}
use Rattle.std.specs.Option.{option_map, option_map_or, option_to_list}
use Rattle.std.proofs.lemmas.Bool.{eqb-true, eq-eqb}
use Rattle.std.proofs.lemmas.Bool.Decides.{nat_tests}
use Rattle.terms.specs.Audience as broadcast
use Rattle.recovery.specs.PacketLog.{PlainLogged, number_of}
use Rattle.journal.specs.declared.step.Step.{Step}
use Rattle.journal.specs.declared.step.What.{What}
use Rattle.journal.specs.declared.step.What.TheVariants.{Opened, Attached, Recovered, Joined, Left, AllJoined, AllLeft, Cast, Told, Took, Parked, Ended, AllEnded, Closed, Swept}
use Rattle.journal.specs.Plain.{PlainBase, Limits, PlainBroadcast}
use Rattle.journal.specs.Log.{logged, next_number}
use Rattle.journal.specs.Legal.{IsAllowed, IsLegal}
use Rattle.journal.proofs.CastStepLemmas.{number-one}
use Rattle.continuity.specs.Session.{Kept, kept, is_for}
use Rattle.continuity.specs.Heard.{has, given, all_given, up_to, begins, is_due, due_by, due_casts}
use Rattle.continuity.specs.Truly.{has_begun}
use Rattle.continuity.proofs.KeptLemmas.{KeepsAll}
use Rattle.continuity.proofs.LogLemmas.{orderly, casts, cast_in, offset_of, has-append, given-next, below}
use Rattle.continuity.proofs.MissedLemmas.{past, past-append, given-above, given-below, casts-none, of-had}

-- ---- lists up to an offset

pub up_to-front : (o : ℕ) (xs ys : List ℕ) → has xs o ≡ true → up_to o (xs ++ ys) ≡ up_to o xs
unfolding up_to
up_to-front o [] ys e = absurd (cc e)
up_to-front o (x ∷ xs) ys e = on (x == o) e (up_to-front o xs ys)
  where
    on : (b : Bool) → (b || has xs o) ≡ true → (has xs o ≡ true → up_to o (xs ++ ys) ≡ up_to o xs) → (if b then x ∷ [] else x ∷ up_to o (xs ++ ys)) ≡ (if b then x ∷ [] else x ∷ up_to o xs)
    on true e rest = refl
    on false e rest = ap (λ l. x ∷ l) (rest e)

up_to-last : (o : ℕ) (xs : List ℕ) → has xs o ≡ false → up_to o (xs ++ o ∷ []) ≡ xs ++ o ∷ []
unfolding up_to
up_to-last o [] e = ap (λ b. if b then o ∷ [] else o ∷ []) (eq-eqb o o refl)
up_to-last o (x ∷ xs) e = on (x == o) e (up_to-last o xs)
  where
    on : (b : Bool) → (b || has xs o) ≡ false → (has xs o ≡ false → up_to o (xs ++ o ∷ []) ≡ xs ++ o ∷ []) → (if b then x ∷ [] else x ∷ up_to o (xs ++ o ∷ [])) ≡ x ∷ xs ++ o ∷ []
    on true e rest = absurd (cc e)
    on false e rest = ap (λ l. x ∷ l) (rest e)

pub or-right : (a b : Bool) → (a || b) ≡ true → a ≡ false → b ≡ true
or-right true b e f = cc
or-right false b e f = e

pub or-left : (a b : Bool) → (a || b) ≡ true → b ≡ false → a ≡ true
or-left true b e f = refl
or-left false b e f = cc

-- the broadcast of a log is for one who keeps this
abbrev pub passes : Kept → PlainLogged → Bool
passes k e = e.space == k.space && broadcast.is_for e.rooms e.excepted k.is_room

module _ (base : PlainBase) (limits : Limits) (p : ℕ) where
  abbrev due : List Step → List ℕ
  due journal = due_casts base limits journal p

  pub due-step : (step : Step) (before : List Step) → begins p step.what ≡ false → due (step ∷ before) ≡ due before ++ due_by base limits before p step.what
  unfolding due_casts
  due-step step before e = rw e refl

  pub due-begins : (step : Step) (before : List Step) → begins p step.what ≡ true → due (step ∷ before) ≡ []
  unfolding due_casts
  due-begins step before e = rw e refl

  -- what is due was given

  due-by-given : (before : List Step) (what : What) (o : ℕ) → has (due_by base limits before p what) o ≡ true → has (given what) o ≡ true
  due-by-given before (Cast b) o e = on (is_due base limits before p b) e
    where
      on : (c : Bool) → has (if c then option_to_list b.offset else []) o ≡ true → has (option_to_list b.offset) o ≡ true
      on true h = h
      on false h = absurd (cc h)
  due-by-given before (Opened c) o e = e
  due-by-given before (Attached k) o e = e
  due-by-given before (Recovered r) o e = e
  due-by-given before (Joined t w) o e = e
  due-by-given before (Left t w) o e = e
  due-by-given before (AllJoined m) o e = e
  due-by-given before (AllLeft m) o e = e
  due-by-given before (Told m) o e = e
  due-by-given before (Took c m n) o e = e
  due-by-given before (Parked c) o e = e
  due-by-given before (Ended t by) o e = e
  due-by-given before (AllEnded d) o e = e
  due-by-given before (Closed c) o e = e
  due-by-given before Swept o e = e

  pub due-given : (journal : List Step) (o : ℕ) → has (due journal) o ≡ true → has (all_given journal) o ≡ true
  unfolding due_casts all_given
  due-given [] o e = e
  due-given (step ∷ before) o e = on (begins p step.what) e (due-given before o)
    where
      either : (a b c d : Bool) → (a || b) ≡ true → (a ≡ true → c ≡ true) → (b ≡ true → d ≡ true) → (c || d) ≡ true
      either true b c d h l r = rw (l refl) refl
      either false b true d h l r = refl
      either false b false d h l r = r h

      on : (b : Bool) → has (if b then [] else due before ++ due_by base limits before p step.what) o ≡ true → (has (due before) o ≡ true → has (all_given before) o ≡ true) → has (all_given before ++ given step.what) o ≡ true
      on true h rest = absurd (cc h)
      on false h rest =
          has-append (all_given before) (given step.what) o
          ∙ either (has (due before) o) (has (due_by base limits before p step.what) o) (has (all_given before) o) (has (given step.what) o)
          (sym (has-append (due before) (due_by base limits before p step.what) o) ∙ h) rest (due-by-given before step.what o)

  pub due-below : (journal : List Step) → IsLegal base limits journal → (o : ℕ) → has (due journal) o ≡ true → o < next_number base journal
  due-below journal legal o e = of-had (λ x. x < next_number base journal) (all_given journal) o (given-below base limits journal (orderly base limits journal legal)) (due-given journal o e)

  pub due-above : (journal : List Step) → IsLegal base limits journal → (o : ℕ) → has (due journal) o ≡ true → number_of base.next ≤ o
  due-above journal legal o e = of-had (λ x. number_of base.next ≤ x) (all_given journal) o (given-above base limits journal (orderly base limits journal legal)) (due-given journal o e)

  keeps-now : (o : ℕ) (k : Option Kept) (journal : List Step) → KeepsAll base limits p o k journal → kept base limits journal p ≡ k
  unfolding KeepsAll
  keeps-now o k [] h = h
  keeps-now o k (step ∷ before) h = h.0

  keeps-before : (o : ℕ) (k : Option Kept) (step : Step) (before : List Step) → KeepsAll base limits p o k (step ∷ before) → has (given step.what) o ≡ false → begins p step.what ≡ false → KeepsAll base limits p o k before
  unfolding KeepsAll
  keeps-before o k step before h e b = h.1 e b

  casts-step : (step : Step) (before : List Step) → casts (step ∷ before) ≡ casts before ++ cast_in step.at step.what
  unfolding casts
  casts-step step before = refl

  -- ---- past an offset that was heard

  abbrev wanted : ℕ → Kept → List Step → List ℕ
  wanted o k journal = past o (passes k) (casts journal)

  -- a step that gives nothing
  same-due : (o : ℕ) (k : Kept) (at : ℕ) (what : What) (before : List Step) → cast_in at what ≡ [] → due_by base limits before p what ≡ [] → begins p what ≡ false
      → up_to o (due before) ++ wanted o k before ≡ due before → up_to o (due (record { at = at; what = what } ∷ before)) ++ wanted o k (record { at = at; what = what } ∷ before) ≡ due (record { at = at; what = what } ∷ before)
  same-due o k at what before none nothing other was =
      let step : Step = record { at = at; what = what } in
      let d : due (step ∷ before) ≡ due before = due-step step before other ∙ ap (λ l. due before ++ l) nothing ∙ append-nil (due before) in
      let c : casts (step ∷ before) ≡ casts before = casts-step step before ∙ ap (λ l. casts before ++ l) none ∙ append-nil (casts before) in
      (λ i. up_to o (d i) ++ past o (passes k) (c i)) ∙ was ∙ sym d

  -- what a logged broadcast adds to what is due, it adds to what is wanted
  one-due : (o x at : ℕ) (k : Kept) (b : PlainBroadcast) (before : List Step) → b.offset ≡ Some x → o < x → kept base limits before p ≡ Some k
      → past o (passes k) (cast_in at (Cast b)) ≡ due_by base limits before p (Cast b)
  one-due o x at k b before e low keeps =
      ap (λ y. past o (passes k) (option_to_list (option_map (logged at b) y))) e
      ∙ ap (λ c. map offset_of (filter (passes k) (if c then logged at b x ∷ [] else []))) (below o x low)
      ∙ on (is_for b k)
      ∙ ap (λ c. if c then x ∷ [] else []) (sym (ap (λ y. option_map_or (is_for b) y false) keeps))
      ∙ ap (λ y. if is_due base limits before p b then option_to_list y else []) (sym e)
    where
      on : (c : Bool) → map offset_of (if c then logged at b x ∷ [] else []) ≡ (if c then x ∷ [] else [])
      on true = refl
      on false = refl

  abbrev cast : ℕ → PlainBroadcast → Step
  cast at b = record { at = at; what = Cast b }

  module _ (o : ℕ) (k : Kept) (at : ℕ) (b : PlainBroadcast) (before : List Step) (x : ℕ) (e : b.offset ≡ Some x) (legal : IsLegal base limits (cast at b ∷ before)) (legal' : IsLegal base limits before) (next : x ≡ next_number base before) where
    given-one : has (given (Cast b)) o ≡ (x == o)
    given-one = ap (λ y. has (option_to_list y) o) e ∙ or-false (x == o)
      where
        or-false : (c : Bool) → (c || false) ≡ c
        or-false true = refl
        or-false false = refl

    -- the broadcast itself is named
    names-it : (x == o) ≡ true → has (due (cast at b ∷ before)) o ≡ true → up_to o (due (cast at b ∷ before)) ++ wanted o k (cast at b ∷ before) ≡ due (cast at b ∷ before)
    names-it is had =
        let same : x ≡ o = eqb-true x o is in
        let new : has (due before) o ≡ false = fresh (has (due before) o) refl in
        let by : has (due_by base limits before p (Cast b)) o ≡ true
        = or-right (has (due before) o) (has (due_by base limits before p (Cast b)) o) (sym (has-append (due before) (due_by base limits before p (Cast b)) o) ∙ ap (λ l. has l o) (sym (due-step (cast at b) before refl)) ∙ had) new in
        let one : due_by base limits before p (Cast b) ≡ o ∷ [] = only (is_due base limits before p b) by ∙ ap (λ y. y ∷ []) same in
        let all : due (cast at b ∷ before) ≡ due before ++ o ∷ [] = due-step (cast at b) before refl ∙ ap (λ l. due before ++ l) one in
        let more = number-one base limits before b at x e in
        let none = casts-none base limits (cast at b ∷ before) (orderly base limits (cast at b ∷ before) legal) o (omega (arith, more, next, same)) in
        (λ i. up_to o (all i) ++ map offset_of (filter (passes k) (none i))) ∙ append-nil (up_to o (due before ++ o ∷ [])) ∙ up_to-last o (due before) new ∙ sym all
      where
        fresh : (c : Bool) → has (due before) o ≡ c → c ≡ false
        fresh true h = let low = due-below before legal' o h in let same : x ≡ o = eqb-true x o is in absurd (omega (arith, low, next, same))
        fresh false h = refl

        only : (c : Bool) → has (if c then option_to_list b.offset else []) o ≡ true → (if c then option_to_list b.offset else []) ≡ x ∷ []
        only true h = ap option_to_list e
        only false h = absurd (cc h)

    -- an earlier one is named
    names-earlier : (x == o) ≡ false → has (due (cast at b ∷ before)) o ≡ true → kept base limits before p ≡ Some k → (has (due before) o ≡ true → up_to o (due before) ++ wanted o k before ≡ due before)
        → up_to o (due (cast at b ∷ before)) ++ wanted o k (cast at b ∷ before) ≡ due (cast at b ∷ before)
    names-earlier is had keeps rest =
        let it = due_by base limits before p (Cast b) in
        let not_it : has it o ≡ false = not-by (has it o) refl in
        let there : has (due before) o ≡ true
        = or-left (has (due before) o) (has it o) (sym (has-append (due before) it o) ∙ ap (λ l. has l o) (sym (due-step (cast at b) before refl)) ∙ had) not_it in
        let low = due-below before legal' o there in
        let adds : past o (passes k) (cast_in at (Cast b)) ≡ it = one-due o x at k b before e (omega (arith, low, next)) keeps in
        ap (λ l. up_to o l ++ wanted o k (cast at b ∷ before)) (due-step (cast at b) before refl)
        ∙ ap (λ l. l ++ wanted o k (cast at b ∷ before)) (up_to-front o (due before) it there)
        ∙ ap (λ l. up_to o (due before) ++ past o (passes k) l) (casts-step (cast at b) before)
        ∙ ap (λ l. up_to o (due before) ++ l) (past-append o (passes k) (casts before) (cast_in at (Cast b)))
        ∙ sym (append_assoc (up_to o (due before)) (wanted o k before) (past o (passes k) (cast_in at (Cast b))))
        ∙ (λ i. rest there i ++ adds i)
        ∙ sym (due-step (cast at b) before refl)
      where
        not-by : (c : Bool) → has (due_by base limits before p (Cast b)) o ≡ c → c ≡ false
        not-by true h = let g = due-by-given before (Cast b) o h in let y : (x == o) ≡ true = sym given-one ∙ g in cc
        not-by false h = refl

  -- a logged broadcast without an offset is none
  none-in : (at : ℕ) (b : PlainBroadcast) → b.offset ≡ None → cast_in at (Cast b) ≡ []
  none-in at b e = ap (λ y. option_to_list (option_map (logged at b) y)) e

  none-by : (before : List Step) (b : PlainBroadcast) → b.offset ≡ None → due_by base limits before p (Cast b) ≡ []
  none-by before b e = on (is_due base limits before p b)
    where
      on : (c : Bool) → (if c then option_to_list b.offset else []) ≡ []
      on true = ap option_to_list e
      on false = refl

  none-given : (o : ℕ) (b : PlainBroadcast) → b.offset ≡ None → has (given (Cast b)) o ≡ false
  none-given o b e = ap (λ y. has (option_to_list y) o) e

  abbrev Past : ℕ → Kept → List Step → Type 0
  Past o k journal = up_to o (due journal) ++ wanted o k journal ≡ due journal

  quiet-past : (o : ℕ) (k : Kept) (at : ℕ) (what : What) (before : List Step) → cast_in at what ≡ [] → due_by base limits before p what ≡ [] → begins p what ≡ false → has (given what) o ≡ false
      → KeepsAll base limits p o (Some k) (record { at = at; what = what } ∷ before) → has (due (record { at = at; what = what } ∷ before)) o ≡ true
      → (KeepsAll base limits p o (Some k) before → has (due before) o ≡ true → Past o k before) → Past o k (record { at = at; what = what } ∷ before)
  quiet-past o k at what before none nothing other ungiven keeps had rest =
      let step : Step = record { at = at; what = what } in
      same-due o k at what before none nothing other
      (rest (keeps-before o (Some k) step before keeps ungiven other)
      (sym (ap (λ l. has l o) (due-step step before other ∙ ap (λ l. due before ++ l) nothing ∙ append-nil (due before))) ∙ had))

  past-after : (o : ℕ) (k : Kept) (at : ℕ) (before : List Step) (what : What) → IsAllowed base limits before (record { at = at; what = what }) what
      → IsLegal base limits (record { at = at; what = what } ∷ before) → IsLegal base limits before
      → KeepsAll base limits p o (Some k) (record { at = at; what = what } ∷ before) → has (due (record { at = at; what = what } ∷ before)) o ≡ true
      → (KeepsAll base limits p o (Some k) before → has (due before) o ≡ true → Past o k before) → Past o k (record { at = at; what = what } ∷ before)
  past-after o k at before (Attached j) allowed legal legal' keeps had rest = on (j.pid == p) refl
    where
      on : (c : Bool) → (j.pid == p) ≡ c → Past o k (record { at = at; what = Attached j } ∷ before)
      on true is = let none : has (due (record { at = at; what = Attached j } ∷ before)) o ≡ false = ap (λ l. has l o) (due-begins (record { at = at; what = Attached j }) before is) in absurd (cc (none, had))
      on false is = quiet-past o k at (Attached j) before refl refl is refl keeps had rest
  past-after o k at before (Cast b) allowed legal legal' keeps had rest = on b.offset refl
    where
      named : (x : ℕ) → b.offset ≡ Some x → (c : Bool) → (x == o) ≡ c → Past o k (record { at = at; what = Cast b } ∷ before)
      named x e true is = names-it o k at b before x e legal legal' (given-next base limits at before b x allowed e) is had
      named x e false is =
          let next = given-next base limits at before b x allowed e in
          let since = keeps-before o (Some k) (record { at = at; what = Cast b }) before keeps (given-one o k at b before x e legal legal' next ∙ is) refl in
          names-earlier o k at b before x e legal legal' next is had (keeps-now o (Some k) before since) (rest since)

      on : (y : Option ℕ) → b.offset ≡ y → Past o k (record { at = at; what = Cast b } ∷ before)
      on None e = quiet-past o k at (Cast b) before (none-in at b e) (none-by before b e) refl (none-given o b e) keeps had rest
      on (Some x) e = named x e (x == o) refl
  past-after o k at before (Opened c) allowed legal legal' keeps had rest = quiet-past o k at (Opened c) before refl refl refl refl keeps had rest
  past-after o k at before (Recovered r) allowed legal legal' keeps had rest = quiet-past o k at (Recovered r) before refl refl refl refl keeps had rest
  past-after o k at before (Joined t w) allowed legal legal' keeps had rest = quiet-past o k at (Joined t w) before refl refl refl refl keeps had rest
  past-after o k at before (Left t w) allowed legal legal' keeps had rest = quiet-past o k at (Left t w) before refl refl refl refl keeps had rest
  past-after o k at before (AllJoined m) allowed legal legal' keeps had rest = quiet-past o k at (AllJoined m) before refl refl refl refl keeps had rest
  past-after o k at before (AllLeft m) allowed legal legal' keeps had rest = quiet-past o k at (AllLeft m) before refl refl refl refl keeps had rest
  past-after o k at before (Told m) allowed legal legal' keeps had rest = quiet-past o k at (Told m) before refl refl refl refl keeps had rest
  past-after o k at before (Took c m n) allowed legal legal' keeps had rest = quiet-past o k at (Took c m n) before refl refl refl refl keeps had rest
  past-after o k at before (Parked c) allowed legal legal' keeps had rest = quiet-past o k at (Parked c) before refl refl refl refl keeps had rest
  past-after o k at before (Ended t by) allowed legal legal' keeps had rest = quiet-past o k at (Ended t by) before refl refl refl refl keeps had rest
  past-after o k at before (AllEnded d) allowed legal legal' keeps had rest = quiet-past o k at (AllEnded d) before refl refl refl refl keeps had rest
  past-after o k at before (Closed c) allowed legal legal' keeps had rest = quiet-past o k at (Closed c) before refl refl refl refl keeps had rest
  past-after o k at before Swept allowed legal legal' keeps had rest = quiet-past o k at Swept before refl refl refl refl keeps had rest

  -- a session that kept its rooms since a broadcast that was due to it: past that broadcast just those are due that are
  -- for one who keeps this
  pub due-past : (o : ℕ) (k : Kept) (journal : List Step) → IsLegal base limits journal → KeepsAll base limits p o (Some k) journal → has (due journal) o ≡ true → Past o k journal
  unfolding IsLegal due_casts
  due-past o k [] legal keeps had = absurd (cc had)
  due-past o k (step ∷ before) legal keeps had = past-after o k step.at before step.what legal.0 legal legal.2 keeps had (due-past o k before legal.2)

  -- ---- past an offset of the base's log

  quiet-all : (o : ℕ) (k : Kept) (at : ℕ) (what : What) (before : List Step) → cast_in at what ≡ [] → due_by base limits before p what ≡ [] → begins p what ≡ false → has (given what) o ≡ false
      → KeepsAll base limits p o (Some k) (record { at = at; what = what } ∷ before)
      → (KeepsAll base limits p o (Some k) before → wanted o k before ≡ due before) → wanted o k (record { at = at; what = what } ∷ before) ≡ due (record { at = at; what = what } ∷ before)
  quiet-all o k at what before none nothing other ungiven keeps rest =
      let step : Step = record { at = at; what = what } in
      let d : due (step ∷ before) ≡ due before = due-step step before other ∙ ap (λ l. due before ++ l) nothing ∙ append-nil (due before) in
      let c : casts (step ∷ before) ≡ casts before = casts-step step before ∙ ap (λ l. casts before ++ l) none ∙ append-nil (casts before) in
      ap (past o (passes k)) c ∙ rest (keeps-before o (Some k) step before keeps ungiven other) ∙ sym d

  or-none : (a b : Bool) → (a || b) ≡ false → (a ≡ false) × (b ≡ false)
  or-none true b e = cc
  or-none false b e = (refl, e)

  all-after : (o : ℕ) (k : Kept) (at : ℕ) (before : List Step) (what : What) → IsAllowed base limits before (record { at = at; what = what }) what → IsLegal base limits before → o < number_of base.next
      → begins p what ≡ false → KeepsAll base limits p o (Some k) (record { at = at; what = what } ∷ before)
      → (KeepsAll base limits p o (Some k) before → wanted o k before ≡ due before) → wanted o k (record { at = at; what = what } ∷ before) ≡ due (record { at = at; what = what } ∷ before)
  all-after o k at before (Cast b) allowed legal low other keeps rest = on b.offset refl
    where
      on : (y : Option ℕ) → b.offset ≡ y → wanted o k (record { at = at; what = Cast b } ∷ before) ≡ due (record { at = at; what = Cast b } ∷ before)
      on None e = quiet-all o k at (Cast b) before (none-in at b e) (none-by before b e) refl (none-given o b e) keeps rest
      on (Some x) e =
          let next = given-next base limits at before b x allowed e in
          let n = (orderly base limits before legal).number in
          let later : o < x = omega (arith, n, next, low) in
          let another : (x == o) ≡ false = differs x later in
          let since = keeps-before o (Some k) (record { at = at; what = Cast b }) before keeps (ap (λ y. has (option_to_list y) o) e ∙ ap (λ c. c || false) another) refl in
          ap (past o (passes k)) (casts-step (record { at = at; what = Cast b }) before)
          ∙ past-append o (passes k) (casts before) (cast_in at (Cast b))
          ∙ (λ i. rest since i ++ one-due o x at k b before e later (keeps-now o (Some k) before since) i)
          ∙ sym (due-step (record { at = at; what = Cast b }) before refl)
        where
          differs : (x : ℕ) → o < x → (x == o) ≡ false
          differs x h = grind (arith, nat_tests)
  all-after o k at before (Attached j) allowed legal low other keeps rest = quiet-all o k at (Attached j) before refl refl other refl keeps rest
  all-after o k at before (Opened c) allowed legal low other keeps rest = quiet-all o k at (Opened c) before refl refl refl refl keeps rest
  all-after o k at before (Recovered r) allowed legal low other keeps rest = quiet-all o k at (Recovered r) before refl refl refl refl keeps rest
  all-after o k at before (Joined t w) allowed legal low other keeps rest = quiet-all o k at (Joined t w) before refl refl refl refl keeps rest
  all-after o k at before (Left t w) allowed legal low other keeps rest = quiet-all o k at (Left t w) before refl refl refl refl keeps rest
  all-after o k at before (AllJoined m) allowed legal low other keeps rest = quiet-all o k at (AllJoined m) before refl refl refl refl keeps rest
  all-after o k at before (AllLeft m) allowed legal low other keeps rest = quiet-all o k at (AllLeft m) before refl refl refl refl keeps rest
  all-after o k at before (Told m) allowed legal low other keeps rest = quiet-all o k at (Told m) before refl refl refl refl keeps rest
  all-after o k at before (Took c m n) allowed legal low other keeps rest = quiet-all o k at (Took c m n) before refl refl refl refl keeps rest
  all-after o k at before (Parked c) allowed legal low other keeps rest = quiet-all o k at (Parked c) before refl refl refl refl keeps rest
  all-after o k at before (Ended t by) allowed legal low other keeps rest = quiet-all o k at (Ended t by) before refl refl refl refl keeps rest
  all-after o k at before (AllEnded d) allowed legal low other keeps rest = quiet-all o k at (AllEnded d) before refl refl refl refl keeps rest
  all-after o k at before (Closed c) allowed legal low other keeps rest = quiet-all o k at (Closed c) before refl refl refl refl keeps rest
  all-after o k at before Swept allowed legal low other keeps rest = quiet-all o k at Swept before refl refl refl refl keeps rest

  -- a session that the base has, which kept its rooms since: just those are due that are for one who keeps this
  pub due-all : (o : ℕ) (k : Kept) (journal : List Step) → IsLegal base limits journal → o < number_of base.next → has_begun journal p ≡ false → KeepsAll base limits p o (Some k) journal
      → wanted o k journal ≡ due journal
  unfolding IsLegal due_casts has_begun casts
  due-all o k [] legal low never keeps = refl
  due-all o k (step ∷ before) legal low never keeps =
      let both = or-none (begins p step.what) (has_begun before p) never in
      all-after o k step.at before step.what legal.0 legal.2 low both.0 keeps (due-all o k before legal.2 low both.1)
