-- The log of a legal journal: the journal's logged broadcasts are numbered from the base's next offset on, and each that
-- came after an offset that stands in the log stands in it too.
use Rattle.std.proofs.Common.{◌≡◌, ◌⊎◌, inl, inr, ℕ, ◌+◌, ◌<◌, ◌≤◌, ◌==◌, max, Bool, true, false, ◌||◌, List, [], ◌∷◌, ◌++◌, length, filter, map, reverse, refl, sym, ◌∙◌, ap, subst, arith, if◌then◌else◌, Option, None, Some, nat_lt, append-nil, append_assoc, length-append}
use Rattle.std.specs.Prelude.{IfSome}
use Rattle.std.specs.List.{AllByRecursion, take_while}
use Rattle.std.specs.Option.{option_map, option_map_or, option_to_list}
use Rattle.std.proofs.lemmas.Bool.{eqb-true}
use Rattle.std.proofs.lemmas.Bool.Decides.{nat_tests}
use Rattle.std.proofs.lemmas.List.{map-append, reverse-append}
use Rattle.std.proofs.lemmas.List.Folds.{list_any-append}
use Rattle.recovery.specs.Expiry.{is_outdated}
use Rattle.recovery.specs.PacketLog as packets
use Rattle.recovery.specs.PacketLog.{PlainLogged, LogCall, number_of, stands, later_than, IsRun, is_fresh, pushed, latest, kept, Rises}
use Rattle.recovery.proofs.PacketLogLemmas.{kept_rises, run_dropped, run_newest, swept_front}
use Rattle.journal.specs.declared.step.Step.{Step}
use Rattle.journal.specs.declared.step.What.{What}
use Rattle.journal.specs.declared.step.What.TheVariants.{Opened, Attached, Recovered, Joined, Left, AllJoined, AllLeft, Cast, Told, Took, Parked, Ended, AllEnded, Closed, Swept}
use Rattle.journal.specs.Plain.{PlainBase, Limits, PlainBroadcast}
use Rattle.journal.specs.Journal.{moment, total}
use Rattle.journal.specs.Log.{logged, log_call, with_call, log_calls, log, offsets_used, next_number, next}
use Rattle.journal.specs.Legal.{IsAllowed, IsLegal, IsSound}
use Rattle.journal.proofs.SessionsLemmas.{number-quiet}
use Rattle.journal.proofs.CastStepLemmas.{number-of, number-one, log-one}
use Rattle.journal.proofs.SweepLemmas.{log-swept}
use Rattle.continuity.specs.Heard.{has, given, all_given}

-- ---- tests of numbers

pub below : (a b : ℕ) → a < b → nat_lt a b ≡ true
below a b h = grind (arith, nat_tests)

pub not-below : (a b : ℕ) → b ≤ a → nat_lt a b ≡ false
not-below a b h = grind (arith, nat_tests)

-- ---- runs

run-more : (n : ℕ) (es : List PlainLogged) (e : PlainLogged) → IsRun n es → e.offset ≡ n → IsRun (n + 1) (es ++ e ∷ [])
unfolding IsRun
run-more n [] e h same = (omega (arith, same), tt)
run-more n (x ∷ es) e h same = (omega (arith, h.0, length-append es (e ∷ [])), run-more n es e h.1 same)

pub stands-high : (n o : ℕ) (es : List PlainLogged) → IsRun n es → stands o es ≡ true → n ≤ o + length es
unfolding IsRun
stands-high n o [] run is = absurd (cc)
stands-high n o (e ∷ es) run is = at (e.offset == o) refl is (stands-high n o es run.1)
  where
    at : (b : Bool) → (e.offset == o) ≡ b → (b || stands o es) ≡ true → (stands o es ≡ true → n ≤ o + length es) → n ≤ o + length (e ∷ es)
    at true same found rest = let here : e.offset ≡ o = eqb-true e.offset o same in omega (arith, here, run.0)
    at false other found rest = let h = rest found in omega (arith, h)

pub earlier : (n o : ℕ) (xs ys : List PlainLogged) → IsRun n (xs ++ ys) → n ≤ o + length ys → later_than o xs ≡ []
unfolding IsRun
earlier n o [] ys run high = refl
earlier n o (x ∷ xs) ys run high =
    let low : x.offset ≤ o = omega (arith, run.0, high, length-append xs ys) in
    ap (λ b. if b then x ∷ later_than o xs else later_than o xs) (not-below o x.offset low) ∙ earlier n o xs ys run.1 high

-- those in front of a run's end are before it
pub front-low : (n : ℕ) (xs ys : List PlainLogged) → IsRun n (xs ++ ys) → AllByRecursion (λ (e : PlainLogged). e.offset + length ys < n) xs
unfolding IsRun
front-low n [] ys run = tt
front-low n (x ∷ xs) ys run = (omega (arith, run.0, length-append xs ys), front-low n xs ys run.1)

-- of two ends of one list the one ends the other
pub either-end : {A : Type 0} (ps cs bs ds : List A) → ps ++ cs ≡ bs ++ ds → ((zs : List A) × (cs ≡ zs ++ ds)) ⊎ ((zs : List A) × (ds ≡ zs ++ cs))
either-end [] cs bs ds e = inl (bs, e)
either-end (p ∷ ps) cs [] ds e = inr (p ∷ ps, sym e)
either-end (p ∷ ps) cs (b ∷ bs) ds e = either-end ps cs bs ds (let same : ps ++ cs ≡ bs ++ ds = cc in same)

-- ---- the journal's logged broadcasts

abbrev pub cast_in : ℕ → What → List PlainLogged
cast_in at (Cast b) = option_to_list (option_map (logged at b) b.offset)
cast_in at _ = []

-- as a log would have them, the oldest first
unfoldable pub casts : List Step → List PlainLogged
casts [] = []
casts (step ∷ before) = casts before ++ cast_in step.at step.what

-- the offset of a broadcast of the log
abbrev pub offset_of : PlainLogged → ℕ
offset_of e = e.offset

given-is : (at : ℕ) (what : What) → given what ≡ map offset_of (cast_in at what)
given-is at (Cast b) = on b.offset
  where
    on : (o : Option ℕ) → option_to_list o ≡ map offset_of (option_to_list (option_map (logged at b) o))
    on None = refl
    on (Some o) = refl
given-is at _ = refl

pub all-given-are : (journal : List Step) → all_given journal ≡ map offset_of (casts journal)
unfolding all_given casts
all-given-are [] = refl
all-given-are (step ∷ before) =
    (λ i. all-given-are before i ++ given-is step.at step.what i) ∙ sym (map-append offset_of (casts before) (cast_in step.at step.what))

pub has-append : (xs ys : List ℕ) (o : ℕ) → has (xs ++ ys) o ≡ (has xs o || has ys o)
has-append xs ys o = list_any-append (λ x. x == o) xs ys

module _ (base : PlainBase) (limits : Limits) where
  -- the offset of an allowed broadcast is the next
  pub given-next : (at : ℕ) (before : List Step) (b : PlainBroadcast) (o : ℕ) → IsAllowed base limits before (record { at = at; what = Cast b }) (Cast b) → b.offset ≡ Some o → o ≡ next_number base before
  given-next at before b o allowed e = on b.offset e allowed.1.offset
    where
      on : (x : Option ℕ) → x ≡ Some o → IfSome x (λ offset. next base before ≡ Some offset) → o ≡ next_number base before
      on None e h = cc
      on (Some y) e h = let same : y ≡ o = cc in sym (number-of (next_number base before) o (h ∙ ap (λ z. Some z) same))

  number-same : (step : Step) (before : List Step) → offsets_used step.what ≡ 0 → next_number base (step ∷ before) ≡ next_number base before
  number-same step before e = number-quiet base limits step before e

  -- ---- what every legal journal's log keeps

  pub record IsOrderly (journal : List Step) : Type 0 where
    pub rises : Rises (log_calls base limits journal)
    pub late : latest (log_calls base limits journal) ≤ moment base journal
    pub run : IsRun (next_number base journal) (log base limits journal)
    pub casts_run : IsRun (next_number base journal) (casts journal)
    pub number : number_of base.next + length (casts journal) ≡ next_number base journal
    pub pushed_are : pushed (log_calls base limits journal) ≡ base.log ++ casts journal

  quiet : (step : Step) (before : List Step) → moment base before ≤ step.at → log_call limits step.at step.what ≡ None → offsets_used step.what ≡ 0 → cast_in step.at step.what ≡ [] → IsOrderly before → IsOrderly (step ∷ before)
  unfolding log_calls log moment casts
  quiet step before later none unused nothing was =
      let calls : log_calls base limits (step ∷ before) ≡ log_calls base limits before = ap (λ call. with_call call (log_calls base limits before)) none in
      let same : casts (step ∷ before) ≡ casts before = ap (λ l. casts before ++ l) nothing ∙ append-nil (casts before) in
      let number = number-same step before unused in
      let late = was.late in
      let was_late : latest (log_calls base limits before) ≤ step.at = omega (arith, late, later) in
      record {
        rises = subst Rises (sym calls) was.rises;
        late = subst (λ c. latest c ≤ step.at) (sym calls) was_late;
        run = subst (λ n. IsRun n (log base limits (step ∷ before))) (sym number) (subst (λ c. IsRun (next_number base before) (kept limits.log limits.log_bytes c)) (sym calls) was.run);
        casts_run = subst (λ n. IsRun n (casts (step ∷ before))) (sym number) (subst (IsRun (next_number base before)) (sym same) was.casts_run);
        number = ap (λ l. number_of base.next + length l) same ∙ was.number ∙ sym number;
        pushed_are = ap pushed calls ∙ was.pushed_are ∙ ap (λ l. base.log ++ l) (sym same);
      }

  one-logged : (at : ℕ) (before : List Step) (b : PlainBroadcast) (o : ℕ) → moment base before ≤ at → b.offset ≡ Some o → o ≡ next_number base before → IsOrderly before → IsOrderly (record { at = at; what = Cast b } ∷ before)
  unfolding log_calls moment casts Rises latest pushed
  one-logged at before b o later e is was =
      let step : Step = record { at = at; what = Cast b } in
      let more : PlainLogged = logged at b o in
      let calls : log_calls base limits (step ∷ before) ≡ packets.Pushed more ∷ log_calls base limits before
      = ap (λ x. with_call (option_map (λ offset. packets.Pushed (logged at b offset)) x) (log_calls base limits before)) e in
      let same : casts (step ∷ before) ≡ casts before ++ more ∷ [] = ap (λ x. casts before ++ option_to_list (option_map (logged at b) x)) e in
      let number = number-one base limits before b at o e in
      let late = was.late in
      let was_late : latest (log_calls base limits before) ≤ at = omega (arith, late, later) in
      record {
        rises = subst Rises (sym calls) (was_late, was.rises);
        late = subst (λ c. latest c ≤ at) (sym calls) (let both : max (latest (log_calls base limits before)) at ≤ at = omega (arith, was_late) in both);
        run = subst (λ n. IsRun n (log base limits (step ∷ before))) (sym number)
            (subst (IsRun (next_number base before + 1)) (sym (log-one base limits before b at o e))
            (run_newest (next_number base before + 1) limits.log limits.log_bytes (log base limits before ++ more ∷ [])
            (run-more (next_number base before) (log base limits before) more was.run is)));
        casts_run = subst (λ n. IsRun n (casts (step ∷ before))) (sym number) (subst (IsRun (next_number base before + 1)) (sym same) (run-more (next_number base before) (casts before) more was.casts_run is));
        number = (let l : length (casts (step ∷ before)) ≡ length (casts before) + 1 = ap length same ∙ length-append (casts before) (more ∷ []) in let n = was.number in omega (arith, l, n, number));
        pushed_are = ap pushed calls ∙ ap (λ l. l ++ more ∷ []) was.pushed_are ∙ append_assoc base.log (casts before) (more ∷ []) ∙ ap (λ l. base.log ++ l) (sym same);
      }

  run-swept : (at : ℕ) (before : List Step) → IsOrderly before → IsRun (next_number base before) (filter (is_fresh limits.keep at) (log base limits before))
  unfolding log
  run-swept at before was =
      subst (IsRun (next_number base before)) (swept_front limits.keep at (latest (log_calls base limits before)) (log base limits before) (kept_rises limits.log limits.log_bytes (log_calls base limits before) was.rises))
      (run_dropped (next_number base before) (length (take_while (λ (e : PlainLogged). is_outdated limits.keep at e.at) (log base limits before))) (log base limits before) was.run)

  is-swept : (at : ℕ) (before : List Step) → moment base before ≤ at → IsOrderly before → IsOrderly (record { at = at; what = Swept } ∷ before)
  unfolding log_calls moment casts Rises latest pushed
  is-swept at before later was =
      let step : Step = record { at = at; what = Swept } in
      let same : casts (step ∷ before) ≡ casts before = append-nil (casts before) in
      let number = number-same step before refl in
      let late = was.late in
      let was_late : latest (log_calls base limits before) ≤ at = omega (arith, late, later) in
      record {
        rises = (was_late, was.rises);
        late = omega (arith, was_late);
        run = subst (λ n. IsRun n (log base limits (step ∷ before))) (sym number) (subst (IsRun (next_number base before)) (sym (log-swept base limits at before was.rises)) (run-swept at before was));
        casts_run = subst (λ n. IsRun n (casts (step ∷ before))) (sym number) (subst (IsRun (next_number base before)) (sym same) was.casts_run);
        number = ap (λ l. number_of base.next + length l) same ∙ was.number ∙ sym number;
        pushed_are = was.pushed_are ∙ ap (λ l. base.log ++ l) (sym same);
      }

  orderly-after : (at : ℕ) (before : List Step) → moment base before ≤ at → IsOrderly before → (what : What) → IsAllowed base limits before (record { at = at; what = what }) what → IsOrderly (record { at = at; what = what } ∷ before)
  orderly-after at before later was (Cast b) allowed = on b.offset refl
    where
      on : (x : Option ℕ) → b.offset ≡ x → IsOrderly (record { at = at; what = Cast b } ∷ before)
      on None e =
          quiet (record { at = at; what = Cast b }) before later (ap (option_map (λ offset. packets.Pushed (logged at b offset))) e) (ap (λ o. option_map_or (λ offset. 1) o 0) e)
          (ap (λ x. option_to_list (option_map (logged at b) x)) e) was
      on (Some o) e = one-logged at before b o later e (given-next at before b o allowed e) was
  orderly-after at before later was Swept allowed = is-swept at before later was
  orderly-after at before later was (Opened c) allowed = quiet (record { at = at; what = Opened c }) before later refl refl refl was
  orderly-after at before later was (Attached k) allowed = quiet (record { at = at; what = Attached k }) before later refl refl refl was
  orderly-after at before later was (Recovered r) allowed = quiet (record { at = at; what = Recovered r }) before later refl refl refl was
  orderly-after at before later was (Joined s w) allowed = quiet (record { at = at; what = Joined s w }) before later refl refl refl was
  orderly-after at before later was (Left s w) allowed = quiet (record { at = at; what = Left s w }) before later refl refl refl was
  orderly-after at before later was (AllJoined m) allowed = quiet (record { at = at; what = AllJoined m }) before later refl refl refl was
  orderly-after at before later was (AllLeft m) allowed = quiet (record { at = at; what = AllLeft m }) before later refl refl refl was
  orderly-after at before later was (Told m) allowed = quiet (record { at = at; what = Told m }) before later refl refl refl was
  orderly-after at before later was (Took c m n) allowed = quiet (record { at = at; what = Took c m n }) before later refl refl refl was
  orderly-after at before later was (Parked c) allowed = quiet (record { at = at; what = Parked c }) before later refl refl refl was
  orderly-after at before later was (Ended s by) allowed = quiet (record { at = at; what = Ended s by }) before later refl refl refl was
  orderly-after at before later was (AllEnded d) allowed = quiet (record { at = at; what = AllEnded d }) before later refl refl refl was
  orderly-after at before later was (Closed c) allowed = quiet (record { at = at; what = Closed c }) before later refl refl refl was

  pushed-last : (h : List LogCall) (e : PlainLogged) → pushed (h ++ packets.Pushed e ∷ []) ≡ e ∷ pushed h
  unfolding pushed
  pushed-last [] e = refl
  pushed-last (packets.Pushed f ∷ h) e = ap (λ l. l ++ f ∷ []) (pushed-last h e)
  pushed-last (packets.Swept keep now ∷ h) e = pushed-last h e

  pushed-all : (es : List PlainLogged) → pushed (reverse (map packets.Pushed es)) ≡ es
  unfolding pushed
  pushed-all [] = refl
  pushed-all (e ∷ es) =
      ap pushed (reverse-append (packets.Pushed e ∷ []) (map packets.Pushed es)) ∙ pushed-last (reverse (map packets.Pushed es)) e ∙ ap (λ l. e ∷ l) (pushed-all es)

  base-orderly : IsSound base limits [] → IsOrderly []
  unfolding log_calls casts next_number total IsRun
  base-orderly sound = record {
    rises = sound.log_rises;
    late = sound.log_late;
    run = sound.offsets_rise;
    casts_run = tt;
    number = omega arith;
    pushed_are = pushed-all base.log ∙ sym (append-nil base.log);
  }

  pub orderly : (journal : List Step) → IsLegal base limits journal → IsOrderly journal
  unfolding IsLegal
  orderly [] legal = base-orderly legal
  orderly (step ∷ before) legal = orderly-after step.at before legal.1 (orderly before legal.2) step.what legal.0

  pub legal-base : (journal : List Step) → IsLegal base limits journal → IsLegal base limits []
  unfolding IsLegal
  legal-base [] legal = legal
  legal-base (step ∷ before) legal = legal-base before legal.2
