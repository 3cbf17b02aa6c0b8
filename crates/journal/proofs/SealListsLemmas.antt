-- Sockets in the order of their clients, and a log as pushes alone.
use Rattle.std.proofs.Common.{◌≡◌, ◌≢◌, ℕ, ◌≤◌, ◌==◌, Bool, true, false, ◌&&◌, ◌||◌, List, [], ◌∷◌, ◌++◌, filter, map, reverse, max, refl, sym, ◌∙◌, ap, subst, arith, if◌then◌else◌, None, Some, nat_eq, append-nil}
use Rattle.std.specs.List.{list_any, find, flat_map, IsDistinct, AllByRecursion}
use Rattle.std.specs.Set.{is_member}
use Rattle.std.proofs.lemmas.Bool.{eqb-true, eq-eqb}
use Rattle.std.proofs.lemmas.Bool.Decides.{nat_tests}
use Rattle.std.proofs.lemmas.List.{map-append, reverse-append}
use Rattle.std.proofs.lemmas.List.Elements.{filter-append}
use Rattle.recovery.specs.PacketLog.{PlainLogged, LogCall, Pushed, Swept, latest, drops, fits, newest, unswept, kept, Rises}
use Rattle.recovery.proofs.LatestLemmas.{newest_whole}
use Rattle.journal.specs.declared.socket.Socket.{Socket}
use Rattle.journal.specs.Membership.{has_id}
use Rattle.journal.specs.Legal.{EachTwo, AreApart}
use Rattle.journal.proofs.SumsLemmas.{apart-out}
use Rattle.journal.proofs.EndLemmas.{all-passing, all-filter, each-filter, DifferBy}
use Rattle.journal.proofs.CastLemmas.{any-filter, any-none, any-or, any-flat}

-- ---- lists

pub all-to : {A : Type 0} (P Q : A → Type 0) → ((x : A) → P x → Q x) → (xs : List A) → AllByRecursion P xs → AllByRecursion Q xs
all-to P Q to [] h = tt
all-to P Q to (x ∷ xs) h = (to x h.0, all-to P Q to xs h.1)

pub all-append : {A : Type 0} (P : A → Type 0) (xs ys : List A) → AllByRecursion P xs → AllByRecursion P ys → AllByRecursion P (xs ++ ys)
all-append P [] ys a b = b
all-append P (x ∷ xs) ys a b = (a.0, all-append P xs ys a.1 b)

each-append : {A : Type 0} (R : A → A → Type 0) (xs ys : List A) → EachTwo R xs → EachTwo R ys → AllByRecursion (λ x. AllByRecursion (R x) ys) xs → EachTwo R (xs ++ ys)
unfolding EachTwo
each-append R [] ys a b h = b
each-append R (x ∷ xs) ys a b h = (all-append (R x) xs ys a.0 h.0, each-append R xs ys a.1 b h.1)

any-left : {A : Type 0} (b : Bool) (p : A → Bool) (xs : List A) → list_any (λ x. b && p x) xs ≡ (b && list_any p xs)
any-left true p xs = refl
any-left false p xs = any-none xs

no-one : {A : Type 0} (p : A → Bool) (xs : List A) → list_any p xs ≡ false → find p xs ≡ None
no-one p [] e = refl
no-one p (x ∷ xs) e = on (p x) e (no-one p xs)
  where
    on : (b : Bool) → (b || list_any p xs) ≡ false → (list_any p xs ≡ false → find p xs ≡ None) → (if b then Some x else find p xs) ≡ None
    on true e rest = absurd (cc e)
    on false e rest = rest e

the-one : {A : Type 0} (p : A → Bool) (v : A) (xs : List A) → AllByRecursion (λ x. p x ≡ true → x ≡ v) xs → list_any p xs ≡ true → find p xs ≡ Some v
the-one p v [] all e = absurd (cc e)
the-one p v (x ∷ xs) all e = on (p x) all.0 e (the-one p v xs all.1)
  where
    on : (b : Bool) → (b ≡ true → x ≡ v) → (b || list_any p xs) ≡ true → (list_any p xs ≡ true → find p xs ≡ Some v) → (if b then Some x else find p xs) ≡ Some v
    on true is e rest = ap (λ z. Some z) (is refl)
    on false is e rest = rest e

-- ---- the sockets of one client after those of another

abbrev pub of_client : List Socket → ℕ → List Socket
of_client ks c = filter (λ (k : Socket). k.client == c) ks

abbrev pub by_clients : List Socket → List ℕ → List Socket
by_clients ks ids = flat_map (of_client ks) ids

abbrev pub AreOf : List ℕ → List Socket → Type 0
AreOf ids ks = AllByRecursion (λ (k : Socket). is_member nat_eq ids k.client ≡ true) ks

module _ (ks : List Socket) where
  pub all-by_clients : (P : Socket → Type 0) (ids : List ℕ) → AllByRecursion P ks → AllByRecursion P (by_clients ks ids)
  all-by_clients P [] h = tt
  all-by_clients P (i ∷ ids) h = all-append P (of_client ks i) (by_clients ks ids) (all-filter P (λ k. k.client == i) ks h) (all-by_clients P ids h)

  pub any-by_clients : (p : Socket → Bool) (ids : List ℕ) → AreOf ids ks → list_any p (by_clients ks ids) ≡ list_any p ks
  any-by_clients p ids known =
      any-flat p (of_client ks) ids
      ∙ ap (λ q. list_any q ids) (λ i c. any-filter p (λ (k : Socket). k.client == c) ks i)
      ∙ turned ks known
    where
      and-true : (b : Bool) → (b && true) ≡ b
      and-true true = refl
      and-true false = refl

      turned : (ls : List Socket) → AreOf ids ls → list_any (λ c. list_any (λ (k : Socket). p k && (k.client == c)) ls) ids ≡ list_any p ls
      turned [] h = any-none ids
      turned (l ∷ ls) h =
          any-or (λ c. p l && (l.client == c)) (λ c. list_any (λ (k : Socket). p k && (k.client == c)) ls) ids
          ∙ ap (λ b. b || list_any (λ c. list_any (λ (k : Socket). p k && (k.client == c)) ls) ids) (any-left (p l) (λ c. l.client == c) ids ∙ ap (λ b. p l && b) h.0 ∙ and-true (p l))
          ∙ ap (λ b. p l || b) (turned ls h.1)

  -- of one client they are the same, in the same order
  twice : (c : ℕ) (ls : List Socket) → of_client (of_client ls c) c ≡ of_client ls c
  twice c [] = refl
  twice c (l ∷ ls) = on (l.client == c) refl (twice c ls)
    where
      on : (b : Bool) → (l.client == c) ≡ b → of_client (of_client ls c) c ≡ of_client ls c → of_client (if b then l ∷ of_client ls c else of_client ls c) c ≡ (if b then l ∷ of_client ls c else of_client ls c)
      on true e ih = rw e (ap (λ z. l ∷ z) ih)
      on false e ih = ih

  of-other : (c i : ℕ) → (c == i) ≡ false → (ls : List Socket) → of_client (of_client ls i) c ≡ []
  of-other c i ne [] = refl
  of-other c i ne (l ∷ ls) = on (l.client == i) refl (of-other c i ne ls)
    where
      on : (b : Bool) → (l.client == i) ≡ b → of_client (of_client ls i) c ≡ [] → of_client (if b then l ∷ of_client ls i else of_client ls i) c ≡ []
      on true e ih = let f : (l.client == c) ≡ false = grind (arith, nat_tests, e, ne) in rw f ih
      on false e ih = ih

  of-by_clients : (c : ℕ) (ids : List ℕ) → IsDistinct nat_eq ids → of_client (by_clients ks ids) c ≡ (if is_member nat_eq ids c then of_client ks c else [])
  unfolding IsDistinct
  of-by_clients c [] once = refl
  of-by_clients c (i ∷ ids) once =
      filter-append (λ (k : Socket). k.client == c) (of_client ks i) (by_clients ks ids)
      ∙ ap (λ z. of_client (of_client ks i) c ++ z) (of-by_clients c ids once.1)
      ∙ on (nat_eq c i) refl
    where
      on : (b : Bool) → nat_eq c i ≡ b → of_client (of_client ks i) c ++ (if is_member nat_eq ids c then of_client ks c else []) ≡ (if b || is_member nat_eq ids c then of_client ks c else [])
      on true e =
          let same : c ≡ i = eqb-true c i e in
          let out : is_member nat_eq ids c ≡ false = subst (λ z. is_member nat_eq ids z ≡ false) (sym same) (apart-out i ids once.0) in
          rw out (append-nil (of_client (of_client ks i) c) ∙ subst (λ z. of_client (of_client ks z) c ≡ of_client ks c) same (twice c ks))
      on false e = ap (λ z. z ++ (if is_member nat_eq ids c then of_client ks c else [])) (of-other c i e ks)

  none-of : (c : ℕ) (ids : List ℕ) → is_member nat_eq ids c ≡ false → (ls : List Socket) → AreOf ids ls → [] ≡ of_client ls c
  none-of c ids out [] h = refl
  none-of c ids out (l ∷ ls) h = on (none-of c ids out ls h.1) (l.client == c) refl
    where
      on : [] ≡ of_client ls c → (b : Bool) → (l.client == c) ≡ b → [] ≡ (if b then l ∷ of_client ls c else of_client ls c)
      on rest true e = let one : is_member nat_eq ids c ≡ true = subst (λ z. is_member nat_eq ids z ≡ true) (eqb-true l.client c e) h.0 in absurd (cc (one, out))
      on rest false e = rest

  pub same-of_client : (ids : List ℕ) → IsDistinct nat_eq ids → AreOf ids ks → (c : ℕ) → of_client (by_clients ks ids) c ≡ of_client ks c
  same-of_client ids once known c = of-by_clients c ids once ∙ on (is_member nat_eq ids c) refl
    where
      on : (b : Bool) → is_member nat_eq ids c ≡ b → (if b then of_client ks c else []) ≡ of_client ks c
      on true e = refl
      on false e = none-of c ids e ks known

  -- they are still apart
  turn : (k l : Socket) → AreApart k l → AreApart l k
  turn k l a = (λ e. a.0 (sym e), λ e. a.1 (sym e), λ e f. a.2 (sym e) (sym f))

  abbrev AreApartAcross : Socket → Socket → Type 0
  AreApartAcross k l = (k.client ≢ l.client) → AreApart k l

  pub across : (ls : List Socket) → EachTwo AreApart ls → AllByRecursion (λ k. AllByRecursion (AreApartAcross k) ls) ls
  unfolding EachTwo
  across [] h = tt
  across (l ∷ ls) h = ((λ ne. absurd (ne refl), all-to (AreApart l) (AreApartAcross l) (λ k a ne. a) ls h.0), more ls h.0 (across ls h.1))
    where
      more : (ms : List Socket) → AllByRecursion (AreApart l) ms → AllByRecursion (λ k. AllByRecursion (AreApartAcross k) ls) ms → AllByRecursion (λ k. AllByRecursion (AreApartAcross k) (l ∷ ls)) ms
      more [] a b = tt
      more (m ∷ ms) a b = ((λ ne. turn l m a.0, b.0), more ms a.1 b.1)

  from-others : (k : Socket) (ids : List ℕ) → AllByRecursion (AreApartAcross k) ks → AllByRecursion (λ j. nat_eq k.client j ≡ false) ids → AllByRecursion (AreApart k) (by_clients ks ids)
  from-others k [] h ne = tt
  from-others k (j ∷ ids) h ne =
      all-append (AreApart k) (of_client ks j) (by_clients ks ids)
      (all-passing (AreApartAcross k) (AreApart k) (λ (l : Socket). l.client == j) (λ l a e. a (λ same. let t : nat_eq k.client j ≡ true = eq-eqb k.client j (same ∙ eqb-true l.client j e) in absurd (cc (t, ne.0)))) ks h)
      (from-others k ids h ne.1)

  pub apart-by_clients : EachTwo AreApart ks → (ids : List ℕ) → IsDistinct nat_eq ids → EachTwo AreApart (by_clients ks ids)
  unfolding EachTwo IsDistinct
  apart-by_clients apart [] once = tt
  apart-by_clients apart (i ∷ ids) once =
      each-append AreApart (of_client ks i) (by_clients ks ids) (each-filter AreApart (λ (k : Socket). k.client == i) ks apart) (apart-by_clients apart ids once.1)
      (all-passing (λ k. AllByRecursion (AreApartAcross k) ks) (λ k. AllByRecursion (AreApart k) (by_clients ks ids)) (λ (k : Socket). k.client == i)
      (λ k h e. from-others k ids h (subst (λ z. AllByRecursion (λ j. nat_eq z j ≡ false) ids) (sym (eqb-true k.client i e)) once.0)) ks (across ks apart))

  -- by an id the same one is found
  unique : (id : Socket → ℕ) (x : ℕ) (ls : List Socket) → EachTwo (DifferBy id) ls → list_any (has_id id x) ls ≡ true → (v : Socket) × AllByRecursion (λ l. has_id id x l ≡ true → l ≡ v) ls
  unfolding EachTwo
  unique id x [] differ e = absurd (cc e)
  unique id x (l ∷ ls) differ e = on (unique id x ls differ.1) (id l == x) refl e
    where
      on : (list_any (has_id id x) ls ≡ true → (v : Socket) × AllByRecursion (λ k. has_id id x k ≡ true → k ≡ v) ls) → (b : Bool) → (id l == x) ≡ b → (b || list_any (has_id id x) ls) ≡ true → (v : Socket) × AllByRecursion (λ k. has_id id x k ≡ true → k ≡ v) (l ∷ ls)
      on rest true is e = (l, (λ _. refl, all-to (DifferBy id l) (λ k. has_id id x k ≡ true → k ≡ l) (λ k ne f. absurd (ne (eqb-true (id l) x is ∙ sym (eqb-true (id k) x f)))) ls differ.0))
      on rest false is e = let found = rest e in (found.0, (λ f. absurd (cc (f, is)), found.1))

  pub same-found : (id : Socket → ℕ) (x : ℕ) (ids : List ℕ) → EachTwo (DifferBy id) ks → AreOf ids ks → find (has_id id x) (by_clients ks ids) ≡ find (has_id id x) ks
  same-found id x ids differ known = on (list_any (has_id id x) ks) refl
    where
      on : (b : Bool) → list_any (has_id id x) ks ≡ b → find (has_id id x) (by_clients ks ids) ≡ find (has_id id x) ks
      on true e =
          let one = unique id x ks differ e in
          the-one (has_id id x) one.0 (by_clients ks ids) (all-by_clients (λ l. has_id id x l ≡ true → l ≡ one.0) ids one.1) (any-by_clients (has_id id x) ids known ∙ e)
          ∙ sym (the-one (has_id id x) one.0 ks one.1 e)
      on false e = no-one (has_id id x) (by_clients ks ids) (any-by_clients (has_id id x) ids known ∙ e) ∙ sym (no-one (has_id id x) ks e)

-- ---- the log as pushes alone

pub reverse-map : {A B : Type 0} (f : A → B) (xs : List A) → reverse (map f xs) ≡ map f (reverse xs)
reverse-map f [] = refl
reverse-map f (x ∷ xs) =
    reverse-append (f x ∷ []) (map f xs)
    ∙ ap (λ z. z ++ f x ∷ []) (reverse-map f xs)
    ∙ sym (map-append f (reverse xs) (x ∷ []))
    ∙ sym (ap (map f) (reverse-append (x ∷ []) xs))

unswept-pushes : (es : List PlainLogged) (later : List LogCall) → ((at : ℕ) → list_any (drops at) later ≡ false) → unswept later (map Pushed es) ≡ reverse es
unfolding unswept
unswept-pushes [] later none = refl
unswept-pushes (e ∷ es) later none =
    rw (none e.at) (ap (λ z. z ++ e ∷ []) (unswept-pushes es (Pushed e ∷ later) none) ∙ sym (reverse-append (e ∷ []) es))

-- pushes alone leave what they push, where it fits
pub kept-pushes : (limit bytes : ℕ) (es : List PlainLogged) → fits limit bytes (reverse es) ≡ true → kept limit bytes (map Pushed es) ≡ reverse es
kept-pushes limit bytes es all = ap (newest limit bytes) (unswept-pushes es [] (λ at. refl)) ∙ newest_whole limit bytes (reverse es) all

abbrev pub pushes_of : List PlainLogged → List LogCall
pushes_of es = map Pushed (reverse es)

-- a history without its first call has risen too
without-first : (h : List LogCall) (call : LogCall) → Rises (h ++ call ∷ []) → Rises h × (latest h ≤ latest (h ++ call ∷ []))
unfolding Rises latest
without-first [] call rises = (tt, omega arith)
without-first (Pushed e ∷ h) call rises = let was = without-first h call rises.1 in ((omega (arith, was.1, rises.0), was.0), omega (arith, was.1))
without-first (Swept keep now ∷ h) call rises = let was = without-first h call rises.1 in ((omega (arith, was.1, rises.0), was.0), omega (arith, was.1))

pushes-more : (e : PlainLogged) (es : List PlainLogged) → pushes_of (e ∷ es) ≡ pushes_of es ++ Pushed e ∷ []
pushes-more e es = ap (map Pushed) (reverse-append (e ∷ []) es) ∙ map-append Pushed (reverse es) (e ∷ [])

newest-rises : (limit bytes last : ℕ) (es : List PlainLogged) → Rises (pushes_of es) × (latest (pushes_of es) ≤ last) → Rises (pushes_of (newest limit bytes es)) × (latest (pushes_of (newest limit bytes es)) ≤ last)
unfolding newest
newest-rises limit bytes last [] was = was
newest-rises limit bytes last (e ∷ es) was =
    let less = without-first (pushes_of es) (Pushed e) (subst Rises (pushes-more e es) was.0) in
    on (fits limit bytes (e ∷ es)) (newest-rises limit bytes last es (less.0, omega (arith, less.1, was.1, ap latest (pushes-more e es))))
  where
    on : (b : Bool) → Rises (pushes_of (newest limit bytes es)) × (latest (pushes_of (newest limit bytes es)) ≤ last)
        → Rises (pushes_of (if b then e ∷ es else newest limit bytes es)) × (latest (pushes_of (if b then e ∷ es else newest limit bytes es)) ≤ last)
    on true rest = was
    on false rest = rest

unswept-rises : (calls later : List LogCall) → Rises calls → Rises (pushes_of (unswept later calls)) × (latest (pushes_of (unswept later calls)) ≤ latest calls)
unfolding unswept Rises latest
unswept-rises [] later rises = (tt, omega arith)
unswept-rises (Pushed e ∷ calls) later rises = on (list_any (drops e.at) later) (unswept-rises calls (Pushed e ∷ later) rises.1)
  where
    on : (b : Bool) → Rises (pushes_of (unswept (Pushed e ∷ later) calls)) × (latest (pushes_of (unswept (Pushed e ∷ later) calls)) ≤ latest calls)
        → Rises (pushes_of (unswept (Pushed e ∷ later) calls ++ (if b then [] else e ∷ []))) × (latest (pushes_of (unswept (Pushed e ∷ later) calls ++ (if b then [] else e ∷ []))) ≤ max (latest calls) e.at)
    on false was = rw (reverse-append (unswept (Pushed e ∷ later) calls) (e ∷ [])) ((omega (arith, was.1, rises.0), was.0), omega (arith, was.1))
    on true was = rw (append-nil (unswept (Pushed e ∷ later) calls)) (was.0, omega (arith, was.1))
unswept-rises (Swept keep now ∷ calls) later rises = let was = unswept-rises calls (Swept keep now ∷ later) rises.1 in (was.0, omega (arith, was.1))

-- what is kept has risen too
pub kept-rises : (limit bytes : ℕ) (calls : List LogCall) → Rises calls → Rises (pushes_of (kept limit bytes calls)) × (latest (pushes_of (kept limit bytes calls)) ≤ latest calls)
kept-rises limit bytes calls rises = newest-rises limit bytes (latest calls) (unswept [] calls) (unswept-rises calls [] rises)
