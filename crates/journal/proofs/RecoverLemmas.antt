-- What a session that comes back gets of the log, and the saved sessions without it.
use Rattle.std.proofs.Common.{zero, suc, add-one, ◌≡◌, ◌≢◌, ℕ, ◌+◌, ◌<◌, ◌≤◌, ◌==◌, Bool, true, false, ◌&&◌, ◌||◌, not, List, [], ◌∷◌, ◌++◌, length, map, filter, take, drop, refl, sym, ◌∙◌, ap, subst, arith, if◌then◌else◌, Option, None, Some, nat_lt, nat_le, length-append, append_assoc}
use Rattle.std.specs.Prelude.{slice_index_or, IfNone}
use Rattle.std.specs.List.{sum_by, list_any, find, AllByRecursion}
use Rattle.std.proofs.lemmas.Bool.{eqb-true, eq-eqb}
use Rattle.std.proofs.lemmas.Bool.Decides.{nat_tests}
use Rattle.std.proofs.lemmas.List.{map-append, length-map}
use Rattle.std.proofs.lemmas.List.Elements.{filter-append}
use Rattle.std.proofs.lemmas.List.Sums.{sum_by-append, sum_by-cons}
use Rattle.terms.specs.declared.entry.Entry.{Entry}
use Rattle.terms.specs.Entry.{entry_size}
use Rattle.recovery.specs.PacketLog.{PlainLogged, IsRun, later_than}
use Rattle.recovery.specs.SavedTable.{PlainSaved}
use Rattle.recovery.specs.Missed.{missed, is_for}
use Rattle.journal.specs.Plain.{PlainOutbox}
use Rattle.journal.specs.Outboxes.{total_size, entries_of, has_no_space}
use Rattle.journal.specs.Sessions.{session_with, is_sid_saved, is_pid_saved}
use Rattle.journal.specs.Recovery.{gets}
use Rattle.journal.specs.Legal.{EachTwo, DifferInIds}
use Rattle.journal.proofs.EndLemmas.{none-filter}

-- ---- what is got of a list

gets-none : (space : ℕ) (rooms : List (List ℕ)) (e : PlainLogged) → is_for space rooms e ≡ false → gets space rooms (e ∷ []) ≡ []
gets-none space rooms e is = ap (λ b. map (λ (e : PlainLogged). e.entry) (if b then e ∷ [] else [])) is

gets-one : (space : ℕ) (rooms : List (List ℕ)) (e : PlainLogged) → is_for space rooms e ≡ true → gets space rooms (e ∷ []) ≡ e.entry ∷ []
gets-one space rooms e is = ap (λ b. map (λ (e : PlainLogged). e.entry) (if b then e ∷ [] else [])) is

pub gets-append : (space : ℕ) (rooms : List (List ℕ)) (xs ys : List PlainLogged) → gets space rooms (xs ++ ys) ≡ gets space rooms xs ++ gets space rooms ys
gets-append space rooms xs ys =
    ap (map (λ (e : PlainLogged). e.entry)) (filter-append (is_for space rooms) xs ys)
    ∙ map-append (λ (e : PlainLogged). e.entry) (filter (is_for space rooms) xs) (filter (is_for space rooms) ys)

pub total_size-append : (xs ys : List Entry) → total_size (xs ++ ys) ≡ total_size xs + total_size ys
unfolding total_size
total_size-append xs ys = sum_by-append entry_size xs ys

pub total_size-none : total_size [] ≡ 0
unfolding total_size
total_size-none = refl

pub total_size-one : (x : Entry) → total_size (x ∷ []) ≡ entry_size x
unfolding total_size
total_size-one x = let s = sum_by-cons entry_size x [] in let z : sum_by entry_size [] ≡ 0 = refl in omega (arith, s, z)

pub none-got : (space : ℕ) (rooms : List (List ℕ)) (e : PlainLogged) (n : ℕ) → is_for space rooms e ≡ false → n + total_size (gets space rooms (e ∷ [])) ≡ n
none-got space rooms e n is = let g = ap total_size (gets-none space rooms e is) in let z = total_size-none in omega (arith, g, z)

pub one-got : (space : ℕ) (rooms : List (List ℕ)) (e : PlainLogged) (x : Entry) (n m : ℕ) → is_for space rooms e ≡ true → x ≡ e.entry → m + entry_size x ≡ n → m + total_size (gets space rooms (e ∷ [])) ≡ n
one-got space rooms e x n m is same fits =
    let g = ap total_size (gets-one space rooms e is) in let o = total_size-one e.entry in let s = ap entry_size same in omega (arith, g, o, s, fits)

either : (a b : Bool) → b ≡ true → (a || b) ≡ true
either true b e = refl
either false b e = e

pub one-lacks : (space : ℕ) (rooms : List (List ℕ)) (e : PlainLogged) (x : Entry) (places bytes : ℕ) → is_for space rooms e ≡ true → x ≡ e.entry → bytes < entry_size x
    → (nat_lt places (length (gets space rooms (e ∷ []))) || nat_lt bytes (total_size (gets space rooms (e ∷ [])))) ≡ true
one-lacks space rooms e x places bytes is same short =
    let g = ap total_size (gets-one space rooms e is) in let o = total_size-one e.entry in let s = ap entry_size same in
    let lt : bytes < total_size (gets space rooms (e ∷ [])) = omega (arith, g, o, s, short) in
    either (nat_lt places (length (gets space rooms (e ∷ [])))) (nat_lt bytes (total_size (gets space rooms (e ∷ [])))) (grind (arith, nat_tests, lt))

pub none-so : {A : Type 0} (o : Option A) (X : Type 0) → X → IfNone o X
none-so None X x = x
none-so (Some a) X x = tt

-- ---- item by item

take-next : {A : Type 0} (d : A) (i : ℕ) (xs : List A) → i < length xs → take (suc i) xs ≡ take i xs ++ slice_index_or xs i d ∷ []
take-next d i [] lt = absurd (omega arith)
take-next d zero (x ∷ xs) lt = refl
take-next d (suc i) (x ∷ xs) lt = ap (λ l. x ∷ l) (take-next d i xs (omega arith))

cut : {A : Type 0} (i : ℕ) (xs : List A) → xs ≡ take i xs ++ drop i xs
cut zero xs = refl
cut (suc i) [] = refl
cut (suc i) (x ∷ xs) = ap (λ l. x ∷ l) (cut i xs)

module _ (space : ℕ) (rooms : List (List ℕ)) (x : PlainLogged) (i : ℕ) (xs : List PlainLogged) (lt : i < length xs) (is : x ≡ slice_index_or xs i x) where
  pub gets-next : gets space rooms (take (i + 1) xs) ≡ gets space rooms (take i xs) ++ gets space rooms (x ∷ [])
  gets-next =
      ap (λ n. gets space rooms (take n xs)) (add-one i)
      ∙ ap (λ l. gets space rooms l) (take-next x i xs lt)
      ∙ gets-append space rooms (take i xs) (slice_index_or xs i x ∷ [])
      ∙ ap (λ y. gets space rooms (take i xs) ++ gets space rooms (y ∷ [])) (sym is)

  pub places-next : (p q r : ℕ) → q + length (gets space rooms (take i xs)) ≡ p → r + length (gets space rooms (x ∷ [])) ≡ q → r + length (gets space rooms (take (i + 1) xs)) ≡ p
  places-next p q r was more =
      let n = ap length gets-next in let a = length-append (gets space rooms (take i xs)) (gets space rooms (x ∷ [])) in omega (arith, n, a, was, more)

  pub bytes-next : (p q r : ℕ) → q + total_size (gets space rooms (take i xs)) ≡ p → r + total_size (gets space rooms (x ∷ [])) ≡ q → r + total_size (gets space rooms (take (i + 1) xs)) ≡ p
  bytes-next p q r was more =
      let n = ap total_size gets-next in let a = total_size-append (gets space rooms (take i xs)) (gets space rooms (x ∷ [])) in omega (arith, n, a, was, more)

  all-parts : gets space rooms xs ≡ (gets space rooms (take i xs) ++ gets space rooms (x ∷ [])) ++ gets space rooms (drop (i + 1) xs)
  all-parts =
      ap (λ l. gets space rooms l) (cut (i + 1) xs)
      ∙ gets-append space rooms (take (i + 1) xs) (drop (i + 1) xs)
      ∙ ap (λ l. l ++ gets space rooms (drop (i + 1) xs)) gets-next

  -- one that doesn't fit leaves no place for all
  pub lacks-all : (p q b c : ℕ) → q + length (gets space rooms (take i xs)) ≡ p → c + total_size (gets space rooms (take i xs)) ≡ b
      → (nat_lt q (length (gets space rooms (x ∷ []))) || nat_lt c (total_size (gets space rooms (x ∷ [])))) ≡ true
      → (nat_lt p (length (gets space rooms xs)) || nat_lt b (total_size (gets space rooms xs))) ≡ true
  lacks-all p q b c places bytes short =
      let first = gets space rooms (take i xs) in let one = gets space rooms (x ∷ []) in let rest = gets space rooms (drop (i + 1) xs) in
      let n = ap length all-parts in let n1 = length-append (first ++ one) rest in let n2 = length-append first one in
      let s = ap total_size all-parts in let s1 = total_size-append (first ++ one) rest in let s2 = total_size-append first one in
      let more : length first + length one ≤ length (gets space rooms xs) = omega (arith, n, n1, n2) in
      let bigger : total_size first + total_size one ≤ total_size (gets space rooms xs) = omega (arith, s, s1, s2) in
      grow p q b c (length first) (length one) (length (gets space rooms xs)) (total_size first) (total_size one) (total_size (gets space rooms xs)) places bytes more bigger short
    where
      grow : (p q b c l m n s t u : ℕ) → q + l ≡ p → c + s ≡ b → l + m ≤ n → s + t ≤ u → (nat_lt q m || nat_lt c t) ≡ true → (nat_lt p n || nat_lt b u) ≡ true
      grow p q b c l m n s t u e f g h short = grind (arith, nat_tests, e, f, g, h, short)

-- ---- in two pieces

pub gets-pieces : (space one two : ℕ) (rooms ones twos : List (List ℕ)) (front back all : List PlainLogged) → front ++ back ≡ all → one ≡ space → ones ≡ rooms → two ≡ space → twos ≡ rooms
    → gets space rooms all ≡ gets one ones front ++ gets two twos back
gets-pieces space one two rooms ones twos front back all is a b c d =
    ap (λ l. gets space rooms l) (sym is) ∙ gets-append space rooms front back ∙ (λ i. gets (sym a i) (sym b i) front ++ gets (sym c i) (sym d i) back)

module _ (f g all : List Entry) (is : all ≡ f ++ g) where
  lengths : length all ≡ length f + length g
  lengths = ap length is ∙ length-append f g

  sizes : total_size all ≡ total_size f + total_size g
  sizes = ap total_size is ∙ total_size-append f g

  pub lacks-front : (p b : ℕ) → (nat_lt p (length f) || nat_lt b (total_size f)) ≡ true → (nat_lt p (length all) || nat_lt b (total_size all)) ≡ true
  lacks-front p b short = grow p b (length f) (total_size f) (length all) (total_size all) (let l = lengths in omega (arith, l)) (let s = sizes in omega (arith, s)) short
    where
      grow : (p b m t n u : ℕ) → m ≤ n → t ≤ u → (nat_lt p m || nat_lt b t) ≡ true → (nat_lt p n || nat_lt b u) ≡ true
      grow p b m t n u e h short = grind (arith, nat_tests, e, h, short)

  pub lacks-back : (p q b c : ℕ) → q + length f ≡ p → c + total_size f ≡ b → (nat_lt q (length g) || nat_lt c (total_size g)) ≡ true → (nat_lt p (length all) || nat_lt b (total_size all)) ≡ true
  lacks-back p q b c e h short = grow p q b c (length f) (length g) (length all) (total_size f) (total_size g) (total_size all) e h lengths sizes short
    where
      grow : (p q b c l m n s t u : ℕ) → q + l ≡ p → c + s ≡ b → n ≡ l + m → u ≡ s + t → (nat_lt q m || nat_lt c t) ≡ true → (nat_lt p n || nat_lt b u) ≡ true
      grow p q b c l m n s t u e f g h short = grind (arith, nat_tests, e, f, g, h, short)

  pub bytes-all : (b c d : ℕ) → c + total_size f ≡ b → d + total_size g ≡ c → total_size all ≤ b
  bytes-all b c d e h = let s = sizes in omega (arith, s, e, h)

pub puts-all : (one two three : List Entry) (a : Entry) (f g all : List Entry) → one ≡ a ∷ [] → two ≡ one ++ f → three ≡ two ++ g → all ≡ f ++ g → three ≡ a ∷ all
puts-all one two three a f g all e h k is = k ∙ ap (λ l. l ++ g) (h ∙ ap (λ l. l ++ f) e) ∙ ap (λ l. a ∷ l) (sym is)

-- ---- the entries that have the offsets missed

run-past : (n m : ℕ) (es : List PlainLogged) → IsRun n es → m + length es ≤ n → AllByRecursion (λ (e : PlainLogged). m ≤ e.offset) es
unfolding IsRun
run-past n m [] run within = tt
run-past n m (e ∷ es) run within = (let r = run.0 in omega (arith, r, within), run-past n m es run.1 (omega (arith, within)))

apart-past : (x : PlainLogged) (es : List PlainLogged) → AllByRecursion (λ (e : PlainLogged). x.offset + 1 ≤ e.offset) es → AllByRecursion (λ (e : PlainLogged). (x.offset == e.offset) ≡ false) es
apart-past x [] h = tt
apart-past x (e ∷ es) h = (let past = h.0 in grind (arith, nat_tests, past), apart-past x es h.1)

abbrev offsets : List PlainLogged → List ℕ
offsets es = map (λ (e : PlainLogged). e.offset) es

abbrev named : List ℕ → PlainLogged → Bool
named os e = list_any (λ o. o == e.offset) os

named-others : (x : PlainLogged) (os : List ℕ) (es : List PlainLogged) → AllByRecursion (λ (e : PlainLogged). (x.offset == e.offset) ≡ false) es → filter (named (x.offset ∷ os)) es ≡ filter (named os) es
named-others x os [] h = refl
named-others x os (e ∷ es) h = rw h.0 (ap (λ l. if list_any (λ o. o == e.offset) os then e ∷ l else l) (named-others x os es h.1))

not-named : (x : PlainLogged) (r : PlainLogged → Bool) (es : List PlainLogged) → AllByRecursion (λ (e : PlainLogged). (x.offset == e.offset) ≡ false) es → named (offsets (filter r es)) x ≡ false
not-named x r [] h = refl
not-named x r (e ∷ es) h = on (not-named x r es h.1) (r e)
  where
    other : (e.offset == x.offset) ≡ false
    other = let o = h.0 in grind (arith, nat_tests, o)

    on : list_any (λ o. o == x.offset) (map (λ (e : PlainLogged). e.offset) (filter r es)) ≡ false → (b : Bool) → list_any (λ o. o == x.offset) (map (λ (e : PlainLogged). e.offset) (if b then e ∷ filter r es else filter r es)) ≡ false
    on rest true = rw other rest
    on rest false = rest

picked : (n : ℕ) (r : PlainLogged → Bool) (es : List PlainLogged) → IsRun n es → filter (named (offsets (filter r es))) es ≡ filter r es
unfolding IsRun
picked n r [] run = refl
picked n r (x ∷ es) run =
    let past : AllByRecursion (λ (e : PlainLogged). x.offset + 1 ≤ e.offset) es = run-past n (x.offset + 1) es run.1 (let h = run.0 in omega (arith, h)) in
    on (apart-past x es past) (picked n r es run.1) (r x)
  where
    on : AllByRecursion (λ (e : PlainLogged). (x.offset == e.offset) ≡ false) es → filter (named (offsets (filter r es))) es ≡ filter r es
        → (b : Bool) → filter (named (offsets (if b then x ∷ filter r es else filter r es))) (x ∷ es) ≡ (if b then x ∷ filter r es else filter r es)
    on apart rest true =
        let same : (x.offset == x.offset) ≡ true = eq-eqb x.offset x.offset refl in
        rw same (ap (λ l. x ∷ l) (named-others x (offsets (filter r es)) es apart ∙ rest))
    on apart rest false = rw (not-named x r es apart) rest

filter-filter : {A : Type 0} (p q : A → Bool) (xs : List A) → filter p (filter q xs) ≡ filter (λ x. q x && p x) xs
filter-filter p q [] = refl
filter-filter p q (x ∷ xs) = on (filter-filter p q xs) (q x) (p x) refl
  where
    on : filter p (filter q xs) ≡ filter (λ x. q x && p x) xs → (a b : Bool) → p x ≡ b
        → filter p (if a then x ∷ filter q xs else filter q xs) ≡ (if a && b then x ∷ filter (λ x. q x && p x) xs else filter (λ x. q x && p x) xs)
    on rest true true e = rw e (ap (λ l. x ∷ l) rest)
    on rest true false e = rw e rest
    on rest false b e = rest

pub entries_missed : (n offset space : ℕ) (rooms : List (List ℕ)) (log : List PlainLogged) → IsRun n log → entries_of log (missed offset space rooms log) ≡ gets space rooms (later_than offset log)
entries_missed n offset space rooms log run =
    let r : PlainLogged → Bool = λ e. nat_lt offset e.offset && is_for space rooms e in
    let both : filter (is_for space rooms) (later_than offset log) ≡ filter r log = filter-filter (is_for space rooms) (λ (e : PlainLogged). nat_lt offset e.offset) log in
    ap (λ l. entries_of log (map (λ (e : PlainLogged). e.offset) l)) both
    ∙ ap (map (λ (e : PlainLogged). e.entry)) (picked n r log run)
    ∙ ap (map (λ (e : PlainLogged). e.entry)) (sym both)

-- ---- the saved sessions

pub found-passes : {A : Type 0} (P : A → Type 0) (p : A → Bool) (xs : List A) (y : A) → AllByRecursion P xs → find p xs ≡ Some y → (P y) × (p y ≡ true)
found-passes P p [] y h e = cc
found-passes P p (x ∷ xs) y h e = on (found-passes P p xs y h.1) (p x) refl e
  where
    on : (find p xs ≡ Some y → (P y) × (p y ≡ true)) → (b : Bool) → p x ≡ b → (if b then Some x else find p xs) ≡ Some y → (P y) × (p y ≡ true)
    on rest true is e = let same : x ≡ y = cc in (subst P same h.0, subst (λ z. p z ≡ true) same is)
    on rest false is e = rest e

pub found-pid : (p : ℕ) (saved : List PlainSaved) (s : PlainSaved) → session_with p saved ≡ Some s → s.pid ≡ p
found-pid p [] s e = cc
found-pid p (t ∷ saved) s e = on (found-pid p saved s) (t.pid == p) refl e
  where
    on : (session_with p saved ≡ Some s → s.pid ≡ p) → (b : Bool) → (t.pid == p) ≡ b → (if b then Some t else session_with p saved) ≡ Some s → s.pid ≡ p
    on rest true is e = let same : t ≡ s = cc in subst (λ (z : PlainSaved). z.pid ≡ p) same (eqb-true t.pid p is)
    on rest false is e = rest e

pub none-left : (p : ℕ) (saved : List PlainSaved) → is_pid_saved (filter (λ (s : PlainSaved). not (s.pid == p)) saved) p ≡ false
none-left p [] = refl
none-left p (t ∷ saved) = on (none-left p saved) (t.pid == p) refl
  where
    on : is_pid_saved (filter (λ (s : PlainSaved). not (s.pid == p)) saved) p ≡ false → (b : Bool) → (t.pid == p) ≡ b
        → is_pid_saved (if not b then t ∷ filter (λ (s : PlainSaved). not (s.pid == p)) saved else filter (λ (s : PlainSaved). not (s.pid == p)) saved) p ≡ false
    on rest true is = rest
    on rest false is = rw is rest

other-sids : (s : PlainSaved) (saved : List PlainSaved) → AllByRecursion (DifferInIds s) saved → is_sid_saved saved s.sid ≡ false
other-sids s [] h = refl
other-sids s (t ∷ saved) h = on (other-sids s saved h.1) (t.sid == s.sid) refl
  where
    on : is_sid_saved saved s.sid ≡ false → (b : Bool) → (t.sid == s.sid) ≡ b → (b || is_sid_saved saved s.sid) ≡ false
    on rest true e = absurd (h.0.0 (sym (eqb-true t.sid s.sid e)))
    on rest false e = rest

pub no-twin : (p : ℕ) (saved : List PlainSaved) (s : PlainSaved) → EachTwo DifferInIds saved → session_with p saved ≡ Some s → is_sid_saved (filter (λ (t : PlainSaved). not (t.pid == p)) saved) s.sid ≡ false
unfolding EachTwo
no-twin p [] s differ e = cc
no-twin p (t ∷ saved) s differ e = on (no-twin p saved s differ.1) (t.pid == p) refl e
  where
    on : (session_with p saved ≡ Some s → is_sid_saved (filter (λ (t : PlainSaved). not (t.pid == p)) saved) s.sid ≡ false)
        → (b : Bool) → (t.pid == p) ≡ b → (if b then Some t else session_with p saved) ≡ Some s
        → is_sid_saved (if not b then t ∷ filter (λ (t : PlainSaved). not (t.pid == p)) saved else filter (λ (t : PlainSaved). not (t.pid == p)) saved) s.sid ≡ false
    on rest true is e =
        let same : t ≡ s = cc in
        subst (λ (z : PlainSaved). is_sid_saved (filter (λ (t : PlainSaved). not (t.pid == p)) saved) z.sid ≡ false) same
        (none-filter (λ (u : PlainSaved). u.sid == t.sid) (λ (t : PlainSaved). not (t.pid == p)) saved (other-sids t saved differ.0))
    on rest false is e =
        let apart = found-passes (DifferInIds t) (λ (u : PlainSaved). u.pid == p) saved s differ.0 e in
        first (t.sid == s.sid) refl apart.0.0 (rest e)
      where
        first : (b : Bool) → (t.sid == s.sid) ≡ b → t.sid ≢ s.sid → is_sid_saved (filter (λ (t : PlainSaved). not (t.pid == p)) saved) s.sid ≡ false → (b || is_sid_saved (filter (λ (t : PlainSaved). not (t.pid == p)) saved) s.sid) ≡ false
        first true e apart rest = absurd (apart (eqb-true t.sid s.sid e))
        first false e apart rest = rest

-- ---- entries that are put one by one

pub nothing-left : {X : Type 0} (l : List X) → length l ≡ 0 → l ≡ []
nothing-left [] h = refl
nothing-left (x ∷ xs) h = absurd (omega arith)

pub still-place : {A : Type 0} (value : A → Entry) (old : List Entry) (all yielded rest : List A) (x : A) (capacity bytes : ℕ) → yielded ++ x ∷ rest ≡ all
    → length old + length all ≤ capacity → total_size old + total_size (map value all) ≤ bytes → has_no_space capacity bytes (old ++ map value yielded) (value x) ≡ false
still-place value old all yielded rest x capacity bytes is places room =
    let n = length-append old (map value yielded) in let m = length-map yielded value in
    let l = ap length is in let l2 = length-append yielded (x ∷ rest) in
    let s = total_size-append old (map value yielded) in
    let t = ap (λ l. total_size (map value l)) is in
    let t2 = ap total_size (map-append value yielded (x ∷ rest)) in
    let t3 = total_size-append (map value yielded) (value x ∷ map value rest) in
    let t4 = total_size-append (value x ∷ []) (map value rest) in
    let t5 = total_size-one (value x) in
    fits capacity (length (old ++ map value yielded)) bytes (total_size (old ++ map value yielded) + entry_size (value x)) (omega (arith, n, m, l, l2, places)) (omega (arith, s, t, t2, t3, t4, t5, room))
  where
    fits : (c n b t : ℕ) → n < c → t ≤ b → (nat_le c n || nat_lt b t) ≡ false
    fits c n b t e f = grind (arith, nat_tests, e, f)

pub pushed-more : {A : Type 0} (value : A → Entry) (old mid new : PlainOutbox) (ys : List A) (x : A) → mid ≡ record old { waiting = old.waiting ++ map value ys } → new ≡ record mid { waiting = mid.waiting ++ value x ∷ [] }
    → new ≡ record old { waiting = old.waiting ++ map value (ys ++ x ∷ []) }
pushed-more value old mid new ys x first second =
    second
    ∙ ap (λ (o : PlainOutbox). record o { waiting = o.waiting ++ value x ∷ [] }) first
    ∙ ap (λ l. record old { waiting = l }) (append_assoc old.waiting (map value ys) (value x ∷ []) ∙ ap (λ l. old.waiting ++ l) (sym (map-append value ys (x ∷ []))))
