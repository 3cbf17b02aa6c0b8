-- What one push or sweep more does to the broadcasts that a history leaves.
use Rattle.std.proofs.Common.{◌≡◌, ℕ, zero, suc, ◌+◌, ◌-◌, ◌^◌, ◌<◌, ◌≤◌, ◌==◌, Bool, true, false, not, ◌||◌, max, List, [], ◌∷◌, ◌++◌, length, drop, filter, refl, sym, ap, subst, ◌∙◌, arith, length-append, append_assoc, append-nil, if◌then◌else◌, None, Some}
use Rattle.std.specs.Prelude.{nat_lt}
use Rattle.std.specs.List.{list_any, take_while, prefix_len, find, slice_get}
use Rattle.std.proofs.lemmas.List.{length-drop}
use Rattle.std.proofs.lemmas.List.Folds.{length-prefix_len}
use Rattle.std.proofs.lemmas.List.Sums.{prefix_len-le-length}
use Rattle.std.proofs.lemmas.Bool.Decides.{nat_tests}
use Rattle.std.proofs.lemmas.List.Elements.{filter-append}
use Rattle.recovery.specs.Expiry.{is_outdated}
use Rattle.recovery.specs.PacketLog.{PlainLogged, LogContents, LogCall, Pushed, Swept, fits, pushed, pushes, latest, drops, unswept, kept, Rises, IsNumbered, IsRun, IsLogOf, IsLog, RisesTo, is_fresh, newest, next_after, offset_at, number_of, with_entry, swept, stands, later_than, IsIndex, HasNone}
use Rattle.recovery.proofs.LatestLemmas.{bytes_more, bytes_dropped, bytes_filtered, length_filtered, fewer_fit, none_fit, newest_drop, newest_end, newest_fits, newest_whole, newest_less, newest_again}

-- ---- tests of numbers and of truth values

not_below : (a b : ℕ) → b ≤ a → nat_lt a b ≡ false
not_below a b h = grind (arith, nat_tests)

below : (a b : ℕ) → a < b → nat_lt a b ≡ true
below a b h = grind (arith, nat_tests)

or_right : (b c : Bool) → c ≡ true → (b || c) ≡ true
or_right true c e = refl
or_right false c e = e

or_swap : (a b c : Bool) → (a || (b || c)) ≡ (b || (a || c))
or_swap true true c = refl
or_swap true false c = refl
or_swap false b c = refl

either : (p q r s : Bool) → (p ≡ true → r ≡ true) → (q ≡ true → s ≡ true) → (p || q) ≡ true → (r || s) ≡ true
either true q r s f g h = ap (λ x. x || s) (f refl)
either false q r s f g h = or_right r s (g h)

-- ---- a sweep

one_left : (e : PlainLogged) (f : PlainLogged → Bool) (x y : Bool) → f e ≡ not x → (if x || y then [] else e ∷ []) ≡ filter f (if y then [] else e ∷ [])
one_left e f true true is = refl
one_left e f false true is = refl
one_left e f true false is = ap (λ b. if b then e ∷ [] else []) (sym is)
one_left e f false false is = ap (λ b. if b then e ∷ [] else []) (sym is)

unswept_swept : (keep now : ℕ) (h l n : List LogCall) → ((at : ℕ) → list_any (drops at) n ≡ (is_outdated keep now at || list_any (drops at) l)) → unswept n h ≡ filter (is_fresh keep now) (unswept l h)
unfolding unswept
unswept_swept keep now [] l n any = refl
unswept_swept keep now (Pushed e ∷ h) l n any =
    (λ i. unswept_swept keep now h (Pushed e ∷ l) (Pushed e ∷ n) any i ++ (if any e.at i then [] else e ∷ []))
    ∙ ap (λ t. filter (is_fresh keep now) (unswept (Pushed e ∷ l) h) ++ t) (one_left e (is_fresh keep now) (is_outdated keep now e.at) (list_any (drops e.at) l) refl)
    ∙ sym (filter-append (is_fresh keep now) (unswept (Pushed e ∷ l) h) (if list_any (drops e.at) l then [] else e ∷ []))
unswept_swept keep now (Swept k m ∷ h) l n any =
    unswept_swept keep now h (Swept k m ∷ l) (Swept k m ∷ n)
    (λ at. ap (λ b. is_outdated k m at || b) (any at) ∙ or_swap (is_outdated k m at) (is_outdated keep now at) (list_any (drops at) l))

-- what later calls drop is all that counts of them
unswept_same : (h l n : List LogCall) → ((at : ℕ) → list_any (drops at) n ≡ list_any (drops at) l) → unswept n h ≡ unswept l h
unfolding unswept
unswept_same [] l n any = refl
unswept_same (Pushed e ∷ h) l n any =
    (λ i. unswept_same h (Pushed e ∷ l) (Pushed e ∷ n) any i ++ (if any e.at i then [] else e ∷ []))
unswept_same (Swept keep now ∷ h) l n any =
    unswept_same h (Swept keep now ∷ l) (Swept keep now ∷ n) (λ at. ap (λ b. is_outdated keep now at || b) (any at))

-- ---- nothing survives

still : (keep now a b : ℕ) → b ≤ a → is_outdated keep now a ≡ true → is_outdated keep now b ≡ true
still keep now a b h e = grind (arith, nat_tests)

dropped_older : (l : List LogCall) (a b : ℕ) → b ≤ a → list_any (drops a) l ≡ true → list_any (drops b) l ≡ true
dropped_older [] a b h e = e
dropped_older (Pushed x ∷ l) a b h e = dropped_older l a b h e
dropped_older (Swept keep now ∷ l) a b h e = either (is_outdated keep now a) (list_any (drops a) l) (is_outdated keep now b) (list_any (drops b) l) (still keep now a b h) (dropped_older l a b h) e

unswept_outdated : (h l : List LogCall) (a : ℕ) → list_any (drops a) l ≡ true → latest h ≤ a → unswept l h ≡ []
unfolding unswept latest
unswept_outdated [] l a e le = refl
unswept_outdated (Pushed x ∷ h) l a e le =
    (λ i. unswept_outdated h (Pushed x ∷ l) a e (omega arith) i ++ (if dropped_older l a x.at (omega arith) e i then [] else x ∷ []))
unswept_outdated (Swept keep now ∷ h) l a e le = unswept_outdated h (Swept keep now ∷ l) a (or_right (is_outdated keep now a) (list_any (drops a) l) e) (omega arith)

-- ---- one call more

offset_is : (n offset : ℕ) → offset_at n ≡ Some offset → offset ≡ n
offset_is n offset e = at (nat_lt n (2 ^ 64)) e
  where
    at : (b : Bool) → (if b then Some n else None) ≡ Some offset → offset ≡ n
    at true e = cc
    at false e = absurd (cc)

-- a log that has seen nothing
pub log_new : (limit bytes first : ℕ) → first < 2 ^ 64 → IsLogOf first [] (record { limit = limit; bytes = bytes; next = Some first; last = 0; entries = [] })
unfolding newest unswept pushes latest Rises IsNumbered
log_new limit bytes first small = record {
  rises = tt;
  numbered = tt;
  next = ap (λ b. if b then Some first else None) (sym (below first (2 ^ 64) small)) ∙ ap offset_at (plus_none first);
  last = refl;
  entries = refl;
}
  where
    plus_none : (n : ℕ) → n ≡ n + 0
    plus_none n = omega arith

-- ---- what every log keeps

pub log_empty : (limit bytes first : ℕ) → 1 ≤ limit → IsLog (record { limit = limit; bytes = bytes; next = Some first; last = 0; entries = [] })
unfolding IsRun RisesTo
log_empty limit bytes first some = record { some = some; fits = none_fit limit bytes; run = tt; rises = tt }

run_more : (n : ℕ) (es : List PlainLogged) (e : PlainLogged) → IsRun n es → e.offset ≡ n → IsRun (suc n) (es ++ e ∷ [])
unfolding IsRun
run_more n [] e h same = (omega (arith, same), tt)
run_more n (x ∷ es) e h same = (omega (arith, h.0, length-append es (e ∷ [])), run_more n es e h.1 same)

pub run_dropped : (n k : ℕ) (es : List PlainLogged) → IsRun n es → IsRun n (drop k es)
unfolding IsRun
run_dropped n zero es h = h
run_dropped n (suc k) [] h = h
run_dropped n (suc k) (e ∷ es) h = run_dropped n k es h.1

rises_tail : (last : ℕ) (e : PlainLogged) (es : List PlainLogged) → RisesTo last (e ∷ es) → RisesTo last es
unfolding RisesTo
rises_tail last e [] h = tt
rises_tail last e (f ∷ es) h = h.1

-- the longest end of a run that fits is one
pub run_newest : (n limit bytes : ℕ) (es : List PlainLogged) → IsRun n es → IsRun n (newest limit bytes es)
run_newest n limit bytes es run =
    let end = newest_drop limit bytes es in
    subst (IsRun n) (sym end.1) (run_dropped n end.0 es run)

pub rises_dropped : (last k : ℕ) (es : List PlainLogged) → RisesTo last es → RisesTo last (drop k es)
rises_dropped last zero es h = h
rises_dropped last (suc k) [] h = h
rises_dropped last (suc k) (e ∷ es) h = rises_dropped last k es (rises_tail last e es h)

rises_more : (last : ℕ) (es : List PlainLogged) (e : PlainLogged) → RisesTo last es → last ≤ e.at → RisesTo e.at (es ++ e ∷ [])
unfolding RisesTo
rises_more last [] e h late = omega arith
rises_more last (x ∷ []) e h late = (omega (arith, h), omega arith)
rises_more last (x ∷ y ∷ es) e h late = (h.0, rises_more last (y ∷ es) e h.1 late)

pub rises_later : (last now : ℕ) (es : List PlainLogged) → RisesTo last es → last ≤ now → RisesTo now es
unfolding RisesTo
rises_later last now [] h late = tt
rises_later last now (e ∷ []) h late = omega (arith, h)
rises_later last now (e ∷ f ∷ es) h late = (h.0, rises_later last now (f ∷ es) h.1 late)

number_next : (offset : ℕ) → offset < 2 ^ 64 → suc offset ≡ number_of (next_after offset)
number_next offset small = at (nat_lt (offset + 1) (2 ^ 64)) refl
  where
    at : (b : Bool) → nat_lt (offset + 1) (2 ^ 64) ≡ b → suc offset ≡ number_of (if b then Some (offset + 1) else None)
    at true is = omega arith
    at false is = let most : 2 ^ 64 ≤ offset + 1 = grind (arith, nat_tests) in omega (arith, most, small)

pub log_grown : (log : LogContents) (e : PlainLogged) → IsLog log → log.next ≡ Some e.offset → e.offset < 2 ^ 64 → log.last ≤ e.at → IsLog (with_entry log e)
log_grown log e is next small late =
    let all : List PlainLogged = log.entries ++ e ∷ [] in
    let end = newest_drop log.limit log.bytes all in
    record {
      some = is.some;
      fits = newest_fits log.limit log.bytes all;
      run = run_newest (number_of (next_after e.offset)) log.limit log.bytes all
          (subst (λ n. IsRun n all) (number_next e.offset small)
          (run_more e.offset log.entries e (subst (λ o. IsRun (number_of o) log.entries) next is.run) refl));
      rises = subst (RisesTo e.at) (sym end.1) (rises_dropped e.at end.0 all (rises_more log.last log.entries e is.rises late));
    }

-- ---- what a sweep takes stands in front

fresh_after : (keep now last : ℕ) (e : PlainLogged) (es : List PlainLogged) → RisesTo last (e ∷ es) → is_outdated keep now e.at ≡ false → filter (is_fresh keep now) es ≡ es
unfolding RisesTo
fresh_after keep now last e [] h fresh = refl
fresh_after keep now last e (f ∷ es) h fresh =
    let too : is_outdated keep now f.at ≡ false = grind (arith, nat_tests, h.0, fresh) in
    ap (λ b. if not b then f ∷ filter (is_fresh keep now) es else filter (is_fresh keep now) es) too
    ∙ ap (λ xs. f ∷ xs) (fresh_after keep now last f es h.1 too)

abbrev outdated_front : (keep now : ℕ) → List PlainLogged → ℕ
outdated_front keep now es = prefix_len (λ (e : PlainLogged). is_outdated keep now e.at) es

one_more : (n : ℕ) → 1 + n ≡ suc n
one_more n = omega arith

dropped_front : (keep now last : ℕ) (es : List PlainLogged) → RisesTo last es → drop (outdated_front keep now es) es ≡ filter (is_fresh keep now) es
dropped_front keep now last [] h = refl
dropped_front keep now last (e ∷ es) h = at (is_outdated keep now e.at) refl (dropped_front keep now last es (rises_tail last e es h))
  where
    at : (b : Bool) → is_outdated keep now e.at ≡ b → drop (outdated_front keep now es) es ≡ filter (is_fresh keep now) es
        → drop (if b then 1 + outdated_front keep now es else 0) (e ∷ es) ≡ (if not b then e ∷ filter (is_fresh keep now) es else filter (is_fresh keep now) es)
    at true is front = ap (λ k. drop k (e ∷ es)) (one_more (outdated_front keep now es)) ∙ front
    at false is front = ap (λ xs. e ∷ xs) (sym (fresh_after keep now last e es h is))

pub swept_count : (keep now : ℕ) (es : List PlainLogged) → length (take_while (λ (e : PlainLogged). is_outdated keep now e.at) es) ≡ outdated_front keep now es
swept_count keep now es = length-prefix_len (λ (e : PlainLogged). is_outdated keep now e.at) es

pub swept_less : (keep now : ℕ) (es : List PlainLogged) → length (take_while (λ (e : PlainLogged). is_outdated keep now e.at) es) ≤ length es
swept_less keep now es = omega (arith, swept_count keep now es, prefix_len-le-length (λ (e : PlainLogged). is_outdated keep now e.at) es)

pub swept_front : (keep now last : ℕ) (es : List PlainLogged) → RisesTo last es
    → drop (length (take_while (λ (e : PlainLogged). is_outdated keep now e.at) es)) es ≡ filter (is_fresh keep now) es
swept_front keep now last es h = ap (λ k. drop k es) (swept_count keep now es) ∙ dropped_front keep now last es h

pub log_shrunk : (log : LogContents) (keep now k : ℕ) (entries : List PlainLogged) → IsLog log → entries ≡ drop k log.entries → log.last ≤ now → IsLog (record { limit = log.limit; bytes = log.bytes; next = log.next; last = now; entries = entries })
log_shrunk log keep now k entries is front late =
    subst (λ es. IsLog (record { limit = log.limit; bytes = log.bytes; next = log.next; last = now; entries = es })) (sym front)
    (record {
      some = is.some;
      fits = fewer_fit log.limit log.bytes log.entries (drop k log.entries) (omega (arith, length-drop k log.entries)) (bytes_dropped k log.entries) is.fits;
      run = run_dropped (number_of log.next) k log.entries is.run;
      rises = rises_dropped now k log.entries (rises_later log.last now log.entries is.rises late);
    })

-- ---- the laws of the calls

unswept_rises : (l h : List LogCall) → Rises h → RisesTo (latest h) (unswept l h)
unfolding Rises RisesTo latest unswept
unswept_rises l [] rises = tt
unswept_rises l (Pushed e ∷ h) rises = at (list_any (drops e.at) l) (unswept_rises (Pushed e ∷ l) h rises.1)
  where
    at : (b : Bool) → RisesTo (latest h) (unswept (Pushed e ∷ l) h) → RisesTo (max (latest h) e.at) (unswept (Pushed e ∷ l) h ++ (if b then [] else e ∷ []))
    at false is =
        let last : e.at ≡ max (latest h) e.at = omega (arith, rises.0) in
        subst (λ n. RisesTo n (unswept (Pushed e ∷ l) h ++ e ∷ [])) last (rises_more (latest h) (unswept (Pushed e ∷ l) h) e is rises.0)
    at true is =
        subst (RisesTo (max (latest h) e.at)) (sym (append-nil (unswept (Pushed e ∷ l) h)))
        (rises_later (latest h) (max (latest h) e.at) (unswept (Pushed e ∷ l) h) is (omega arith))
unswept_rises l (Swept keep now ∷ h) rises = rises_later (latest h) (max (latest h) now) (unswept (Swept keep now ∷ l) h) (unswept_rises (Swept keep now ∷ l) h rises.1) (omega arith)

-- the moments of what a log has after a history rise
pub kept_rises : (limit bytes : ℕ) (h : List LogCall) → Rises h → RisesTo (latest h) (kept limit bytes h)
kept_rises limit bytes h rises =
    let end = newest_drop limit bytes (unswept [] h) in
    subst (RisesTo (latest h)) (sym end.1) (rises_dropped (latest h) end.0 (unswept [] h) (unswept_rises [] h rises))

-- a sweep takes from the front, so it leaves the longest end that fits of what it leaves of all
newest_swept : (limit bytes keep now last : ℕ) (es : List PlainLogged) → RisesTo last es → filter (is_fresh keep now) (newest limit bytes es) ≡ newest limit bytes (filter (is_fresh keep now) es)
unfolding newest
newest_swept limit bytes keep now last [] rises = refl
newest_swept limit bytes keep now last (e ∷ es) rises =
    at (is_outdated keep now e.at) refl (fits limit bytes (e ∷ es)) refl (newest_swept limit bytes keep now last es (rises_tail last e es rises))
  where
    all_fresh : is_outdated keep now e.at ≡ false → e ∷ filter (is_fresh keep now) es ≡ e ∷ es
    all_fresh fresh = ap (λ xs. e ∷ xs) (fresh_after keep now last e es rises fresh)

    at : (x : Bool) → is_outdated keep now e.at ≡ x → (b : Bool) → fits limit bytes (e ∷ es) ≡ b → filter (is_fresh keep now) (newest limit bytes es) ≡ newest limit bytes (filter (is_fresh keep now) es)
        → filter (is_fresh keep now) (if b then e ∷ es else newest limit bytes es) ≡ newest limit bytes (if not x then e ∷ filter (is_fresh keep now) es else filter (is_fresh keep now) es)
    at true out true whole rest =
        ap (λ t. if not t then e ∷ filter (is_fresh keep now) es else filter (is_fresh keep now) es) out
        ∙ sym (newest_whole limit bytes (filter (is_fresh keep now) es)
        (fewer_fit limit bytes (e ∷ es) (filter (is_fresh keep now) es) (omega (arith, length_filtered (is_fresh keep now) es)) (omega (arith, bytes_filtered (is_fresh keep now) es, bytes_more e es)) whole))
    at true out false some rest = rest
    at false fresh true whole rest =
        ap (λ t. if not t then e ∷ filter (is_fresh keep now) es else filter (is_fresh keep now) es) fresh
        ∙ all_fresh fresh
        ∙ sym (ap (newest limit bytes) (all_fresh fresh) ∙ newest_whole limit bytes (e ∷ es) whole)
    at false fresh false some rest =
        rest ∙ ap (newest limit bytes) (fresh_after keep now last e es rises fresh)
        ∙ sym (ap (newest limit bytes) (all_fresh fresh) ∙ newest_less limit bytes e es some)

-- a history with one push more leaves the newest of what it left and the pushed one
pub kept-pushed : (limit bytes : ℕ) (h : List LogCall) (e : PlainLogged) → kept limit bytes (Pushed e ∷ h) ≡ newest limit bytes (kept limit bytes h ++ e ∷ [])
unfolding unswept
kept-pushed limit bytes h e =
    ap (λ es. newest limit bytes (es ++ e ∷ [])) (unswept_same h [] (Pushed e ∷ []) (λ at. refl))
    ∙ sym (newest_again limit bytes (unswept [] h) e)

-- a history with one sweep more leaves those of what it left that are not outdated
pub kept-swept : (limit bytes keep now : ℕ) (h : List LogCall) → Rises h → kept limit bytes (Swept keep now ∷ h) ≡ filter (is_fresh keep now) (kept limit bytes h)
unfolding unswept
kept-swept limit bytes keep now h rises =
    ap (newest limit bytes) (unswept_swept keep now h [] (Swept keep now ∷ []) (λ at. refl))
    ∙ sym (newest_swept limit bytes keep now (latest h) (unswept [] h) (unswept_rises [] h rises))

pub log_pushed : (first : ℕ) (h : List LogCall) (log : LogContents) (e : PlainLogged) → IsLogOf first h log → latest h ≤ e.at → log.next ≡ Some e.offset → IsLogOf first (Pushed e ∷ h) (with_entry log e)
unfolding pushes latest Rises IsNumbered
log_pushed first h log e is late next =
    let at : e.offset ≡ first + pushes h = offset_is (first + pushes h) e.offset (sym is.next ∙ next) in
    let up : first + pushes h + 1 ≡ first + suc (pushes h) = omega arith in
    record {
      rises = (late, is.rises);
      numbered = (at, is.numbered);
      next = ap next_after at ∙ ap offset_at up;
      last = omega arith;
      entries =
          ap (λ es. newest log.limit log.bytes (es ++ e ∷ [])) is.entries
          ∙ sym (kept-pushed log.limit log.bytes h e);
    }

pub log_swept : (first : ℕ) (h : List LogCall) (log : LogContents) (keep now : ℕ) → IsLogOf first h log → latest h ≤ now → IsLogOf first (Swept keep now ∷ h) (swept log keep now)
unfolding pushes latest Rises IsNumbered
log_swept first h log keep now is late = record {
  rises = (late, is.rises);
  numbered = is.numbered;
  next = is.next;
  last = omega arith;
  entries = ap (filter (is_fresh keep now)) is.entries ∙ sym (kept-swept log.limit log.bytes keep now h is.rises);
}

-- ---- nothing is left out after an entry

unswept_suffix : (l h : List LogCall) → Rises h → (before : List PlainLogged) × (pushed h ≡ before ++ unswept l h)
unfolding unswept pushed Rises
unswept_suffix l [] rises = ([], refl)
unswept_suffix l (Pushed e ∷ h) rises =
    at (list_any (drops e.at) l) (unswept_suffix (Pushed e ∷ l) h rises.1) refl
  where
    at : (q : Bool) → (before : List PlainLogged) × (pushed h ≡ before ++ unswept (Pushed e ∷ l) h) → list_any (drops e.at) l ≡ q
        → (before : List PlainLogged) × (pushed h ++ e ∷ [] ≡ before ++ (unswept (Pushed e ∷ l) h ++ (if q then [] else e ∷ [])))
    at false split in_time = (split.0, ap (λ xs. xs ++ e ∷ []) split.1 ∙ append_assoc split.0 (unswept (Pushed e ∷ l) h) (e ∷ []))
    at true split out =
        let none : unswept (Pushed e ∷ l) h ≡ [] = unswept_outdated h (Pushed e ∷ l) e.at out rises.0 in
        (pushed h ++ e ∷ [], sym (append-nil (pushed h ++ e ∷ [])) ∙ ap (λ ks. (pushed h ++ e ∷ []) ++ (ks ++ [])) (sym none))
unswept_suffix l (Swept keep now ∷ h) rises = unswept_suffix (Swept keep now ∷ l) h rises.1

-- what a history leaves are the latest of its broadcasts
pub kept_suffix : (limit bytes : ℕ) (h : List LogCall) → Rises h → (before : List PlainLogged) × (pushed h ≡ before ++ kept limit bytes h)
kept_suffix limit bytes h rises =
    let split = unswept_suffix [] h rises in
    let end = newest_end limit bytes (unswept [] h) in
    (split.0 ++ end.0, split.1 ∙ ap (λ xs. split.0 ++ xs) end.1 ∙ sym (append_assoc split.0 end.0 (kept limit bytes h)))

pub run_pushed : (first : ℕ) (h : List LogCall) → IsNumbered first h → IsRun (first + pushes h) (pushed h)
unfolding IsNumbered pushed pushes IsRun
run_pushed first [] numbered = tt
run_pushed first (Pushed e ∷ h) numbered =
    subst (λ n. IsRun n (pushed h ++ e ∷ [])) (up first (pushes h)) (run_more (first + pushes h) (pushed h) e (run_pushed first h numbered.1) numbered.0)
  where
    up : (m n : ℕ) → suc (m + n) ≡ m + suc n
    up m n = omega arith
run_pushed first (Swept keep now ∷ h) numbered = run_pushed first h numbered

stands_high : (n o : ℕ) (es : List PlainLogged) → IsRun n es → stands o es ≡ true → n ≤ o + length es
unfolding IsRun
stands_high n o [] run is = absurd (cc)
stands_high n o (e ∷ es) run is = at (e.offset == o) refl is (stands_high n o es run.1)
  where
    at : (b : Bool) → (e.offset == o) ≡ b → (b || stands o es) ≡ true → (stands o es ≡ true → n ≤ o + length es) → n ≤ o + length (e ∷ es)
    at true same found rest = let here : e.offset ≡ o = grind (arith, nat_tests) in omega (arith, here, run.0)
    at false other found rest = omega (arith, rest found)

earlier : (n o : ℕ) (xs ys : List PlainLogged) → IsRun n (xs ++ ys) → n ≤ o + length ys → later_than o xs ≡ []
unfolding IsRun
earlier n o [] ys run high = refl
earlier n o (x ∷ xs) ys run high =
    let low : x.offset ≤ o = omega (arith, run.0, high, length-append xs ys) in
    let test : nat_lt o x.offset ≡ false = not_below o x.offset low in
    ap (λ b. if b then x ∷ later_than o xs else later_than o xs) test ∙ earlier n o xs ys run.1 high

run_suffix : (n : ℕ) (xs ys : List PlainLogged) → IsRun n (xs ++ ys) → IsRun n ys
unfolding IsRun
run_suffix n [] ys run = run
run_suffix n (x ∷ xs) ys run = run_suffix n xs ys run.1

-- where an offset stands in what a history leaves, every broadcast pushed after it stands there too
pub kept_later : (first limit bytes : ℕ) (h : List LogCall) (offset : ℕ) → Rises h → IsNumbered first h → stands offset (kept limit bytes h) ≡ true
    → later_than offset (kept limit bytes h) ≡ later_than offset (pushed h)
kept_later first limit bytes h offset rises numbered is =
    let split = kept_suffix limit bytes h rises in
    let run : IsRun (first + pushes h) (split.0 ++ kept limit bytes h) = subst (IsRun (first + pushes h)) split.1 (run_pushed first h numbered) in
    let high : first + pushes h ≤ offset + length (kept limit bytes h) = stands_high (first + pushes h) offset (kept limit bytes h) (run_suffix (first + pushes h) split.0 (kept limit bytes h) run) is in
    sym (ap (later_than offset) split.1
    ∙ filter-append (λ e. nat_lt offset e.offset) split.0 (kept limit bytes h)
    ∙ ap (λ xs. xs ++ later_than offset (kept limit bytes h)) (earlier (first + pushes h) offset split.0 (kept limit bytes h) run high))

pub log_later : (first : ℕ) (h : List LogCall) (log : LogContents) (offset : ℕ) → IsLogOf first h log → stands offset log.entries ≡ true → later_than offset log.entries ≡ later_than offset (pushed h)
log_later first h log offset is stand =
    ap (later_than offset) is.entries
    ∙ kept_later first log.limit log.bytes h offset is.rises is.numbered (ap (stands offset) (sym is.entries) ∙ stand)

-- what a history leaves is a run
pub kept_run : (first limit bytes : ℕ) (h : List LogCall) → Rises h → IsNumbered first h → IsRun (first + pushes h) (kept limit bytes h)
kept_run first limit bytes h rises numbered =
    let split = kept_suffix limit bytes h rises in
    run_suffix (first + pushes h) split.0 (kept limit bytes h) (subst (IsRun (first + pushes h)) split.1 (run_pushed first h numbered))

-- ---- an offset's index in a run

no_offset : (n o : ℕ) (es : List PlainLogged) → IsRun n es → o + length es < n → stands o es ≡ false
unfolding IsRun
no_offset n o [] run low = refl
no_offset n o (e ∷ es) run low =
    let test : (e.offset == o) ≡ false = (let other : o < e.offset = omega (arith, run.0, low) in grind (arith, nat_tests, other)) in
    ap (λ b. b || stands o es) test ∙ no_offset n o es run.1 (omega (arith, low))

all_later : (n o : ℕ) (es : List PlainLogged) → IsRun n es → o + length es < n → later_than o es ≡ es
unfolding IsRun
all_later n o [] run low = refl
all_later n o (e ∷ es) run low =
    let test : nat_lt o e.offset ≡ true = below o e.offset (omega (arith, run.0, low)) in
    ap (λ b. if b then e ∷ later_than o es else later_than o es) test ∙ ap (λ xs. e ∷ xs) (all_later n o es run.1 (omega (arith, low)))

find_none : (o : ℕ) (es : List PlainLogged) → stands o es ≡ false → find (λ (e : PlainLogged). e.offset == o) es ≡ None
find_none o [] none = refl
find_none o (e ∷ es) none = at (e.offset == o) none (find_none o es)
  where
    at : (b : Bool) → (b || stands o es) ≡ false → (stands o es ≡ false → find (λ (e : PlainLogged). e.offset == o) es ≡ None) → (if b then Some e else find (λ (e : PlainLogged). e.offset == o) es) ≡ None
    at true none rest = absurd (cc)
    at false none rest = rest none

find_index : (n i : ℕ) (e : PlainLogged) (es : List PlainLogged) → IsRun n (e ∷ es) → find (λ (x : PlainLogged). x.offset == (e.offset + i)) (e ∷ es) ≡ slice_get (e ∷ es) i
unfolding IsRun
find_index n zero e es run =
    let test : (e.offset == (e.offset + 0)) ≡ true = grind (arith, nat_tests) in
    ap (λ b. if b then Some e else find (λ (x : PlainLogged). x.offset == (e.offset + 0)) es) test
find_index n (suc i) e es run =
    let test : (e.offset == (e.offset + suc i)) ≡ false = grind (arith, nat_tests) in
    ap (λ b. if b then Some e else find (λ (x : PlainLogged). x.offset == (e.offset + suc i)) es) test
    ∙ next es run (find_index n i)
  where
    next : (es : List PlainLogged) → IsRun n (e ∷ es) → ((f : PlainLogged) (fs : List PlainLogged) → IsRun n (f ∷ fs) → find (λ (x : PlainLogged). x.offset == (f.offset + i)) (f ∷ fs) ≡ slice_get (f ∷ fs) i)
        → find (λ (x : PlainLogged). x.offset == (e.offset + suc i)) es ≡ slice_get (e ∷ es) (suc i)
    next [] run at = refl
    next (f ∷ fs) run at =
        let same : e.offset + suc i ≡ f.offset + i = omega (arith, run.0, run.1.0) in
        ap (λ o. find (λ (x : PlainLogged). x.offset == o) (f ∷ fs)) same ∙ at f fs run.1

later_index : (n i : ℕ) (e : PlainLogged) (es : List PlainLogged) → IsRun n (e ∷ es) → later_than (e.offset + i) (e ∷ es) ≡ drop (suc i) (e ∷ es)
unfolding IsRun
later_index n zero e es run =
    let test : nat_lt (e.offset + 0) e.offset ≡ false = not_below (e.offset + 0) e.offset (omega arith) in
    ap (λ b. if b then e ∷ later_than (e.offset + 0) es else later_than (e.offset + 0) es) test
    ∙ all_later n (e.offset + 0) es run.1 (omega (arith, run.0))
later_index n (suc i) e es run =
    let test : nat_lt (e.offset + suc i) e.offset ≡ false = not_below (e.offset + suc i) e.offset (omega arith) in
    ap (λ b. if b then e ∷ later_than (e.offset + suc i) es else later_than (e.offset + suc i) es) test
    ∙ next es run (later_index n i)
  where
    next : (es : List PlainLogged) → IsRun n (e ∷ es) → ((f : PlainLogged) (fs : List PlainLogged) → IsRun n (f ∷ fs) → later_than (f.offset + i) (f ∷ fs) ≡ drop (suc i) (f ∷ fs))
        → later_than (e.offset + suc i) es ≡ drop (suc i) es
    next [] run at = refl
    next (f ∷ fs) run at =
        let same : e.offset + suc i ≡ f.offset + i = omega (arith, run.0, run.1.0) in
        ap (λ o. later_than o (f ∷ fs)) same ∙ at f fs run.1

stands_index : (n i : ℕ) (e : PlainLogged) (es : List PlainLogged) → IsRun n (e ∷ es) → i < length (e ∷ es) → stands (e.offset + i) (e ∷ es) ≡ true
unfolding IsRun
stands_index n zero e es run within =
    let test : (e.offset == (e.offset + 0)) ≡ true = grind (arith, nat_tests) in
    ap (λ b. b || stands (e.offset + 0) es) test
stands_index n (suc i) e es run within = or_right (e.offset == (e.offset + suc i)) (stands (e.offset + suc i) es) (next es run within (stands_index n i))
  where
    next : (es : List PlainLogged) → IsRun n (e ∷ es) → suc i < length (e ∷ es) → ((f : PlainLogged) (fs : List PlainLogged) → IsRun n (f ∷ fs) → i < length (f ∷ fs) → stands (f.offset + i) (f ∷ fs) ≡ true)
        → stands (e.offset + suc i) es ≡ true
    next [] run within at = absurd (omega (arith, within))
    next (f ∷ fs) run within at =
        let same : e.offset + suc i ≡ f.offset + i = omega (arith, run.0, run.1.0) in
        ap (λ o. stands o (f ∷ fs)) same ∙ at f fs run.1 (omega (arith, within))

stands_low : (n o : ℕ) (es : List PlainLogged) → IsRun n es → stands o es ≡ true → o < n
unfolding IsRun
stands_low n o [] run is = absurd (cc)
stands_low n o (e ∷ es) run is = at (e.offset == o) refl is (stands_low n o es run.1)
  where
    at : (b : Bool) → (e.offset == o) ≡ b → (b || stands o es) ≡ true → (stands o es ≡ true → o < n) → o < n
    at true same found rest = let here : e.offset ≡ o = grind (arith, nat_tests) in omega (arith, here, run.0)
    at false other found rest = rest found

past_index : (n o : ℕ) (es : List PlainLogged) → IsRun n es → n ≤ o → stands o es ≡ false
past_index n o es run past = absent (stands o es) refl
  where
    absent : (b : Bool) → stands o es ≡ b → b ≡ false
    absent true is = absurd (omega (arith, stands_low n o es run is, past))
    absent false is = refl

first_entry : (es : List PlainLogged) (e : PlainLogged) → slice_get es 0 ≡ Some e → (later : List PlainLogged) × (es ≡ e ∷ later)
first_entry [] e is = absurd (cc)
first_entry (x ∷ es) e is = (es, cc)

-- an offset from the first entry's on stands as many places after it as it is greater
pub index_within : (n offset : ℕ) (e : PlainLogged) (entries : List PlainLogged) → IsRun n entries → slice_get entries 0 ≡ Some e → e.offset ≤ offset → offset - e.offset < length entries → IsIndex offset entries (offset - e.offset)
index_within n offset e entries run first high within =
    let split = first_entry entries e first in
    let same : e.offset + (offset - e.offset) ≡ offset = omega (arith, high) in
    subst (λ o. IsIndex o entries (offset - e.offset)) same
    (subst (λ xs. IsIndex (e.offset + (offset - e.offset)) xs (offset - e.offset)) (sym split.1)
    (at (offset - e.offset) split.0 (subst (IsRun n) split.1 run) (subst (λ xs. offset - e.offset < length xs) split.1 within)))
  where
    plus_one : (i : ℕ) → suc i ≡ i + 1
    plus_one i = omega arith

    at : (i : ℕ) (es : List PlainLogged) → IsRun n (e ∷ es) → i < length (e ∷ es) → IsIndex (e.offset + i) (e ∷ es) i
    at i es run within = record {
      within = within;
      stands = stands_index n i e es run within;
      found = find_index n i e es run;
      later = later_index n i e es run ∙ ap (λ k. drop k (e ∷ es)) (plus_one i);
    }

pub none_past : (n offset : ℕ) (e : PlainLogged) (entries : List PlainLogged) → IsRun n entries → slice_get entries 0 ≡ Some e → e.offset ≤ offset → length entries ≤ offset - e.offset → HasNone offset entries
unfolding IsRun
none_past n offset e entries run first high past =
    let split = first_entry entries e first in
    let here : IsRun n (e ∷ split.0) = subst (IsRun n) split.1 run in
    let long : length (e ∷ split.0) ≤ offset - e.offset = subst (λ xs. length xs ≤ offset - e.offset) split.1 past in
    let none : stands offset entries ≡ false = past_index n offset entries run (omega (arith, here.0, long, high)) in
    record { stands = none; found = find_none offset entries none }

pub none_before : (n offset : ℕ) (e : PlainLogged) (entries : List PlainLogged) → IsRun n entries → slice_get entries 0 ≡ Some e → offset < e.offset → HasNone offset entries
unfolding IsRun
none_before n offset e entries run first low =
    let split = first_entry entries e first in
    let here : IsRun n (e ∷ split.0) = subst (IsRun n) split.1 run in
    let none : stands offset entries ≡ false = ap (stands offset) split.1 ∙ no_offset n offset (e ∷ split.0) here (omega (arith, here.0, low)) in
    record { stands = none; found = find_none offset entries none }

pub none_empty : (offset : ℕ) (entries : List PlainLogged) → slice_get entries 0 ≡ None → HasNone offset entries
none_empty offset [] is = record { stands = refl; found = refl }
none_empty offset (e ∷ es) is = absurd (cc)
