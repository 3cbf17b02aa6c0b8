-- The lists of a broadcast: the sockets that it is for, those that miss it, and the messages for the others.
use Rattle.std.proofs.Common.{◌≡◌, ◌≢◌, ℕ, ◌+◌, ◌==◌, Bool, true, false, ◌&&◌, ◌||◌, not, List, [], ◌∷◌, ◌++◌, length, filter, map, refl, sym, ◌∙◌, ap, subst, arith, if◌then◌else◌, Option, None, Some, nat_eq, nat_cmp, append-nil, append_assoc}
use Rattle.std.specs.Prelude.{IfSome}
use Rattle.std.specs.List.{list_any, find, flat_map, IsDistinct, AllByRecursion}
use Rattle.std.specs.Option.{option_map, option_map_or}
use Rattle.std.specs.Ordering.{eq_by_cmp}
use Rattle.std.specs.Cmp.{unsigned_tied}
use Rattle.std.proofs.lemmas.Bool.{eqb-true, eq-eqb}
use Rattle.std.proofs.lemmas.Cmp.{nat_eq_equiv}
use Rattle.std.proofs.lemmas.List.Concat.{flat_map-cons}
use Rattle.std.proofs.lemmas.List.Folds.{list_any-append}
use Rattle.std.proofs.lemmas.List.{map-append}
use Rattle.std.proofs.lemmas.List.Kept.{IsStrictlySortedBy-filter}
use Rattle.std.proofs.lemmas.Map.Made.{length-from_same_keys}
use Rattle.std.proofs.lemmas.Map.Keys.{IsDistinct-from_sorted}
use Rattle.terms.specs.declared.entry.Entry.{Entry}
use Rattle.journal.specs.declared.socket.Socket.{Socket}
use Rattle.journal.specs.Plain.{PlainClient, PlainMessage}
use Rattle.journal.specs.Fields.{with_entry}
use Rattle.journal.specs.Membership.{has_id, sid_of}
use Rattle.journal.specs.Legal.{EachTwo, AreApart}
use Rattle.journal.specs.Outboxes.{has_no_space, entries_for}
use Rattle.journal.specs.Casting.{in_space, ListsInside, client_of, is_full_in, message_for, messages_for, missing_of, missing, receiver_of, pair_of, with_entries}

-- ---- tests of lists

module _ {A : Type 0} where
  pub any-filter : (p t : A → Bool) (xs : List A) → list_any p (filter t xs) ≡ list_any (λ x. p x && t x) xs
  any-filter p t [] = refl
  any-filter p t (x ∷ xs) = on (t x) (p x) (any-filter p t xs)
    where
      on : (b c : Bool) → list_any p (filter t xs) ≡ list_any (λ x. p x && t x) xs → list_any p (if b then x ∷ filter t xs else filter t xs) ≡ ((p x && b) || list_any (λ x. p x && t x) xs)
      on true c ih = rw ih (split (p x) (list_any (λ x. p x && t x) xs))
        where
          split : (c r : Bool) → (c || r) ≡ ((c && true) || r)
          split true r = refl
          split false r = refl
      on false c ih = ih ∙ split (p x) (list_any (λ x. p x && t x) xs)
        where
          split : (c r : Bool) → r ≡ ((c && false) || r)
          split true r = refl
          split false r = refl

  pub any-none : (xs : List A) → list_any (λ x. false) xs ≡ false
  any-none [] = refl
  any-none (x ∷ xs) = any-none xs

  pub any-or : (p q : A → Bool) (xs : List A) → list_any (λ x. p x || q x) xs ≡ (list_any p xs || list_any q xs)
  any-or p q [] = refl
  any-or p q (x ∷ xs) = rw (any-or p q xs) (four (p x) (q x) (list_any p xs) (list_any q xs))
    where
      four : (a b c d : Bool) → ((a || b) || (c || d)) ≡ ((a || c) || (b || d))
      four true b c d = refl
      four false true true d = refl
      four false true false d = refl
      four false false c d = refl

  pub any-and : (p : A → Bool) (b : Bool) (xs : List A) → list_any (λ x. p x && b) xs ≡ (list_any p xs && b)
  any-and p b [] = refl
  any-and p b (x ∷ xs) = rw (any-and p b xs) (three (p x) (list_any p xs) b)
    where
      three : (a c b : Bool) → ((a && b) || (c && b)) ≡ ((a || c) && b)
      three true true true = refl
      three true true false = refl
      three true false true = refl
      three true false false = refl
      three false c b = refl

  pub any-same : (P : A → Type 0) (p q : A → Bool) → ((x : A) → P x → p x ≡ q x) → (xs : List A) → AllByRecursion P xs → list_any p xs ≡ list_any q xs
  any-same P p q h [] all = refl
  any-same P p q h (x ∷ xs) all = rw (h x all.0, any-same P p q h xs all.1) refl

  pub all-both : (P Q : A → Type 0) (xs : List A) → AllByRecursion P xs → AllByRecursion Q xs → AllByRecursion (λ x. P x × Q x) xs
  all-both P Q [] a b = tt
  all-both P Q (x ∷ xs) a b = ((a.0, b.0), all-both P Q xs a.1 b.1)

  pub length-split : (t : A → Bool) (xs : List A) → length (filter (λ x. not (t x)) xs) + length (filter t xs) ≡ length xs
  length-split t [] = refl
  length-split t (x ∷ xs) = on (t x) (length-split t xs)
    where
      on : (b : Bool) → length (filter (λ x. not (t x)) xs) + length (filter t xs) ≡ length xs
          → length (if not b then x ∷ filter (λ x. not (t x)) xs else filter (λ x. not (t x)) xs) + length (if b then x ∷ filter t xs else filter t xs) ≡ length (x ∷ xs)
      on true ih = omega (arith, ih)
      on false ih = omega (arith, ih)

pub any-map : {A B : Type 0} (p : B → Bool) (f : A → B) (xs : List A) → list_any p (map f xs) ≡ list_any (λ x. p (f x)) xs
any-map p f [] = refl
any-map p f (x ∷ xs) = ap (λ r. p (f x) || r) (any-map p f xs)

pub any-flat : {A B : Type 0} (p : B → Bool) (f : A → List B) (xs : List A) → list_any p (flat_map f xs) ≡ list_any (λ x. list_any p (f x)) xs
any-flat p f [] = refl
any-flat p f (x ∷ xs) = rw (flat_map-cons f x xs, list_any-append p (f x) (flat_map f xs), any-flat p f xs) refl

pub length-map : {A B : Type 0} (f : A → B) (xs : List A) → length (map f xs) ≡ length xs
length-map f [] = refl
length-map f (x ∷ xs) = let rest = length-map f xs in omega (arith, rest)

-- ---- sockets by their session ids

differs : (x y : ℕ) → x ≢ y → (y == x) ≡ false
differs x y n = on (y == x) refl
  where
    on : (b : Bool) → (y == x) ≡ b → b ≡ false
    on true e = absurd (n (sym (eqb-true y x e)))
    on false e = refl

none-at : (s : ℕ) (g : Socket → Bool) (k : Socket) → k.sid ≡ s → (ks : List Socket) → AllByRecursion (AreApart k) ks → list_any (λ (l : Socket). l.sid == s && g l) ks ≡ false
none-at s g k e [] all = refl
none-at s g k e (l ∷ ks) all =
    let other : (l.sid == s) ≡ false = subst (λ z. (l.sid == z) ≡ false) e (differs k.sid l.sid all.0.0) in
    rw (other, none-at s g k e ks all.1) refl

or-false : (b : Bool) → (b || false) ≡ b
or-false true = refl
or-false false = refl

pub any-at : (ks : List Socket) → EachTwo AreApart ks → (s : ℕ) (g : Socket → Bool) → list_any (λ (l : Socket). l.sid == s && g l) ks ≡ option_map_or g (find (has_id sid_of s) ks) false
unfolding EachTwo
any-at [] apart s g = refl
any-at (k ∷ ks) apart s g = on (k.sid == s) refl (any-at ks apart.1 s g)
  where
    on : (b : Bool) → (k.sid == s) ≡ b → list_any (λ (l : Socket). l.sid == s && g l) ks ≡ option_map_or g (find (has_id sid_of s) ks) false
        → ((b && g k) || list_any (λ (l : Socket). l.sid == s && g l) ks) ≡ option_map_or g (if b then Some k else find (has_id sid_of s) ks) false
    on true e ih = rw (none-at s g k (eqb-true k.sid s e) ks apart.0) (or-false (g k))
    on false e ih = ih

-- each socket is found by its id
pub each-found : (ks : List Socket) → EachTwo AreApart ks → AllByRecursion (λ (k : Socket). find (has_id sid_of k.sid) ks ≡ Some k) ks
unfolding EachTwo
each-found [] apart = tt
each-found (k ∷ ks) apart = (let e : (k.sid == k.sid) ≡ true = eq-eqb k.sid k.sid refl in rw e refl, later ks apart.0 (each-found ks apart.1))
  where
    later : (ls : List Socket) → AllByRecursion (AreApart k) ls → AllByRecursion (λ (l : Socket). find (has_id sid_of l.sid) ks ≡ Some l) ls → AllByRecursion (λ (l : Socket). find (has_id sid_of l.sid) (k ∷ ks) ≡ Some l) ls
    later [] all found = tt
    later (l ∷ ls) all found =
        (let other : (k.sid == l.sid) ≡ false = differs l.sid k.sid (λ e. all.0.0 (sym e)) in rw other found.0, later ls all.1 found.1)

pub found-sid : (s : ℕ) (k : Socket) (ks : List Socket) → find (has_id sid_of s) ks ≡ Some k → k.sid ≡ s
found-sid s k [] e = cc
found-sid s k (l ∷ ks) e = on (l.sid == s) refl e (found-sid s k ks)
  where
    on : (b : Bool) → (l.sid == s) ≡ b → (if b then Some l else find (has_id sid_of s) ks) ≡ Some k → (find (has_id sid_of s) ks ≡ Some k → k.sid ≡ s) → k.sid ≡ s
    on true is e ih = let same : l ≡ k = cc in ap sid_of (sym same) ∙ eqb-true l.sid s is
    on false is e ih = ih e

-- what is so of each is so of one that is found
all-found : (P : Socket → Type 0) (s : ℕ) (k : Socket) (ks : List Socket) → AllByRecursion P ks → find (has_id sid_of s) ks ≡ Some k → P k
all-found P s k [] all e = cc
all-found P s k (l ∷ ks) all e = on (l.sid == s) e (all-found P s k ks all.1)
  where
    on : (b : Bool) → (if b then Some l else find (has_id sid_of s) ks) ≡ Some k → (find (has_id sid_of s) ks ≡ Some k → P k) → P k
    on true e ih = let same : l ≡ k = cc in subst P same all.0
    on false e ih = ih e

-- two that are found by different ids are apart
found-apart : (ks : List Socket) → EachTwo AreApart ks → (s t : ℕ) (k l : Socket) → find (has_id sid_of s) ks ≡ Some k → find (has_id sid_of t) ks ≡ Some l → s ≢ t → k.space ≡ l.space → k.client ≢ l.client
unfolding EachTwo
found-apart [] apart s t k l a b n same = cc
found-apart (m ∷ ks) apart s t k l a b n same = on (m.sid == s) (m.sid == t) refl refl a b (λ x y. found-apart ks apart.1 s t k l x y n same)
  where
    on : (p q : Bool) → (m.sid == s) ≡ p → (m.sid == t) ≡ q → (if p then Some m else find (has_id sid_of s) ks) ≡ Some k → (if q then Some m else find (has_id sid_of t) ks) ≡ Some l
        → (find (has_id sid_of s) ks ≡ Some k → find (has_id sid_of t) ks ≡ Some l → k.client ≢ l.client) → k.client ≢ l.client
    on true true x y a b ih = absurd (n (sym (eqb-true m.sid s x) ∙ eqb-true m.sid t y))
    on true false x y a b ih =
        let is : m ≡ k = cc in let two = all-found (AreApart m) t l ks apart.0 b in
        λ e. two.2 (ap (λ (z : Socket). z.client) is ∙ e) (ap (λ (z : Socket). z.space) is ∙ same)
    on false true x y a b ih =
        let is : m ≡ l = cc in let two = all-found (AreApart m) s k ks apart.0 a in
        λ e. two.2 (ap (λ (z : Socket). z.client) is ∙ sym e) (ap (λ (z : Socket). z.space) is ∙ sym same)
    on false false x y a b ih = ih a b

-- ---- the sockets of a namespace among those with these ids

swap : (r : Socket → Bool) (ks : List Socket) (sids : List ℕ) → list_any (λ s. list_any (λ (k : Socket). k.sid == s && r k) ks) sids ≡ list_any (λ (k : Socket). list_any (λ s. k.sid == s) sids && r k) ks
swap r [] sids = any-none sids
swap r (k ∷ ks) sids =
    any-or (λ s. k.sid == s && r k) (λ s. list_any (λ (k : Socket). k.sid == s && r k) ks) sids
    ∙ rw (any-and (λ s. k.sid == s) (r k) sids, swap r ks sids) refl

any-in-space : (p : Socket → Bool) (space : ℕ) (o : Option Socket) → list_any p (in_space space o) ≡ option_map_or (λ (k : Socket). p k && (k.space == space)) o false
any-in-space p space None = refl
any-in-space p space (Some k) = on (k.space == space) (p k) refl
  where
    on : (b c : Bool) → p k ≡ c → list_any p (if b then k ∷ [] else []) ≡ (p k && b)
    on true true e = rw e refl
    on true false e = rw e refl
    on false true e = rw e refl
    on false false e = rw e refl

tied : (x : ℕ) (sids : List ℕ) → list_any (λ s. x == s) sids ≡ list_any (eq_by_cmp nat_cmp x) sids
tied x sids = sym (λ i. list_any (λ s. unsigned_tied x s i) sids)

module _ (ks : List Socket) (apart : EachTwo AreApart ks) (seat : ℕ → Option Socket) (seats : (s : ℕ) → seat s ≡ find (has_id sid_of s) ks) (space : ℕ) (test : ℕ → Bool) (sids : List ℕ)
    (lists : ListsInside (λ s. list_any (λ (k : Socket). k.sid == s && k.space == space) ks) test sids) where
  abbrev here : List Socket
  here = flat_map (λ s. in_space space (seat s)) sids

  -- these pass a test exactly where one that is in the namespace and listed does
  pub any-here : (p : Socket → Bool) → list_any p here ≡ list_any (λ (k : Socket). p k && (k.space == space && test k.sid)) ks
  any-here p =
      any-flat p (λ s. in_space space (seat s)) sids
      ∙ (λ i. list_any (λ s. each s i) sids)
      ∙ swap (λ (k : Socket). p k && (k.space == space)) ks sids
      ∙ any-same (λ (k : Socket). find (has_id sid_of k.sid) ks ≡ Some k) (λ (k : Socket). list_any (λ s. k.sid == s) sids && (p k && (k.space == space))) (λ (k : Socket). p k && (k.space == space && test k.sid)) turn ks (each-found ks apart)
    where
      each : (s : ℕ) → list_any p (in_space space (seat s)) ≡ list_any (λ (k : Socket). k.sid == s && (p k && (k.space == space))) ks
      each s = ap (λ o. list_any p (in_space space o)) (seats s) ∙ any-in-space p space (find (has_id sid_of s) ks) ∙ sym (any-at ks apart s (λ (k : Socket). p k && (k.space == space)))

      order : (a b c : Bool) → (a && (b && c)) ≡ (b && (c && a))
      order true true true = refl
      order true true false = refl
      order true false c = refl
      order false true true = refl
      order false true false = refl
      order false false c = refl

      turn : (k : Socket) → find (has_id sid_of k.sid) ks ≡ Some k → (list_any (λ s. k.sid == s) sids && (p k && (k.space == space))) ≡ (p k && (k.space == space && test k.sid))
      turn k found = on (k.space == space) refl
        where
          on : (b : Bool) → (k.space == space) ≡ b → (list_any (λ s. k.sid == s) sids && (p k && b)) ≡ (p k && (b && test k.sid))
          on true is =
              let inside : list_any (λ (l : Socket). l.sid == k.sid && l.space == space) ks ≡ true =
              any-at ks apart k.sid (λ (l : Socket). l.space == space) ∙ ap (λ o. option_map_or (λ (l : Socket). l.space == space) o false) found ∙ is in
              rw (tied k.sid sids, lists.exactly k.sid inside) (order (test k.sid) (p k) true)
          on false is = order (list_any (λ s. k.sid == s) sids) (p k) false

  in-space-sid : (s : ℕ) (o : Option Socket) → find (has_id sid_of s) ks ≡ o → map sid_of (in_space space o) ≡ (if option_map_or (λ (k : Socket). k.space == space) o false then s ∷ [] else [])
  in-space-sid s None e = refl
  in-space-sid s (Some k) e = on (k.space == space)
    where
      on : (b : Bool) → map sid_of (if b then k ∷ [] else []) ≡ (if b then s ∷ [] else [])
      on true = ap (λ z. z ∷ []) (found-sid s k ks e)
      on false = refl

  pub sids-here : (xs : List ℕ) → map sid_of (flat_map (λ s. in_space space (seat s)) xs) ≡ filter (λ s. option_map_or (λ (k : Socket). k.space == space) (seat s) false) xs
  sids-here [] = refl
  sids-here (s ∷ xs) =
      ap (map sid_of) (flat_map-cons (λ s. in_space space (seat s)) s xs)
      ∙ map-append sid_of (in_space space (seat s)) (flat_map (λ s. in_space space (seat s)) xs)
      ∙ ap (λ l. map sid_of (in_space space (seat s)) ++ l) (sids-here xs)
      ∙ ap (λ l. l ++ filter (λ s. option_map_or (λ (k : Socket). k.space == space) (seat s) false) xs) (in-space-sid s (seat s) (sym (seats s)))
      ∙ on (option_map_or (λ (k : Socket). k.space == space) (seat s) false)
    where
      on : (b : Bool) → (if b then s ∷ [] else []) ++ filter (λ s. option_map_or (λ (k : Socket). k.space == space) (seat s) false) xs
          ≡ (if b then s ∷ filter (λ s. option_map_or (λ (k : Socket). k.space == space) (seat s) false) xs else filter (λ s. option_map_or (λ (k : Socket). k.space == space) (seat s) false) xs)
      on true = refl
      on false = refl

  -- each stands once
  pub here-once : IsDistinct nat_eq (map sid_of here)
  here-once =
      subst (IsDistinct nat_eq) (sym (sids-here sids))
      (subst (λ e. IsDistinct e (filter (λ s. option_map_or (λ (k : Socket). k.space == space) (seat s) false) sids)) (λ i x y. unsigned_tied x y i)
      (IsDistinct-from_sorted nat_cmp _ (IsStrictlySortedBy-filter nat_cmp (λ s. option_map_or (λ (k : Socket). k.space == space) (seat s) false) sids lists.rises)))

  -- each is found by its id, and in the namespace
  abbrev pub IsHere : Socket → Type 0
  IsHere k = (find (has_id sid_of k.sid) ks ≡ Some k) × (k.space ≡ space)

  all-append : (xs ys : List Socket) → AllByRecursion IsHere xs → AllByRecursion IsHere ys → AllByRecursion IsHere (xs ++ ys)
  all-append [] ys a b = b
  all-append (x ∷ xs) ys a b = (a.0, all-append xs ys a.1 b)

  one-here : (s : ℕ) (o : Option Socket) → find (has_id sid_of s) ks ≡ o → AllByRecursion IsHere (in_space space o)
  one-here s None e = tt
  one-here s (Some k) e = on (k.space == space) refl
    where
      on : (b : Bool) → (k.space == space) ≡ b → AllByRecursion IsHere (if b then k ∷ [] else [])
      on true is = ((subst (λ z. find (has_id sid_of z) ks ≡ Some k) (sym (found-sid s k ks e)) e, eqb-true k.space space is), tt)
      on false is = tt

  pub all-here : (xs : List ℕ) → AllByRecursion IsHere (flat_map (λ s. in_space space (seat s)) xs)
  all-here [] = tt
  all-here (s ∷ xs) =
      subst (AllByRecursion IsHere) (sym (flat_map-cons (λ s. in_space space (seat s)) s xs))
      (all-append (in_space space (seat s)) (flat_map (λ s. in_space space (seat s)) xs) (one-here s (seat s) (sym (seats s))) (all-here xs))

  apart-clients : (k : Socket) → IsHere k → (ls : List Socket) → AllByRecursion IsHere ls → AllByRecursion (λ y. nat_eq k.sid y ≡ false) (map sid_of ls) → AllByRecursion (λ y. nat_eq k.client y ≡ false) (map client_of ls)
  apart-clients k is [] all other = tt
  apart-clients k is (l ∷ ls) all other =
      (on (nat_eq k.client l.client) refl, apart-clients k is ls all.1 other.1)
    where
      on : (b : Bool) → nat_eq k.client l.client ≡ b → b ≡ false
      on true e =
          absurd (found-apart ks apart k.sid l.sid k l is.0 all.0.0 (λ same. let yes : nat_eq k.sid l.sid ≡ true = eq-eqb k.sid l.sid same in let no = other.0 in cc) (is.1 ∙ sym all.0.1) (eqb-true k.client l.client e))
      on false e = refl

  clients-once : (ls : List Socket) → AllByRecursion IsHere ls → IsDistinct nat_eq (map sid_of ls) → IsDistinct nat_eq (map client_of ls)
  unfolding IsDistinct
  clients-once [] all once = tt
  clients-once (l ∷ ls) all once = (apart-clients l all.0 ls all.1 once.0, clients-once ls all.1 once.1)

  -- no two are of one client
  pub here-clients-once : IsDistinct nat_eq (map client_of here)
  here-clients-once = clients-once here (all-here sids) here-once

-- ---- what a filter keeps

module _ (f : Socket → ℕ) (t : Socket → Bool) where
  keeps : (P : ℕ → Type 0) (ks : List Socket) → AllByRecursion P (map f ks) → AllByRecursion P (map f (filter t ks))
  keeps P [] h = tt
  keeps P (k ∷ ks) h = elim (t k) as (λ b. AllByRecursion P (map f (if b then k ∷ filter t ks else filter t ks))) [ true ↦ (h.0, keeps P ks h.1) | false ↦ keeps P ks h.1 ]

  pub once-filter : (ks : List Socket) → IsDistinct nat_eq (map f ks) → IsDistinct nat_eq (map f (filter t ks))
  unfolding IsDistinct
  once-filter [] h = h
  once-filter (k ∷ ks) h = elim (t k) as (λ b. IsDistinct nat_eq (map f (if b then k ∷ filter t ks else filter t ks))) [
    | true ↦ (keeps (λ y. nat_eq (f k) y ≡ false) ks h.0, once-filter ks h.1)
    | false ↦ once-filter ks h.1
  ]

-- of sockets that are apart, those of one namespace are of different clients
module _ (space : ℕ) (t : Socket → Bool) (inside : (k : Socket) → t k ≡ true → k.space ≡ space) where
  others-apart : (k : Socket) → k.space ≡ space → (ls : List Socket) → AllByRecursion (AreApart k) ls → AllByRecursion (λ y. nat_eq k.client y ≡ false) (map client_of (filter t ls))
  others-apart k is [] all = tt
  others-apart k is (l ∷ ls) all = on (t l) refl (others-apart k is ls all.1)
    where
      test : (b : Bool) → t l ≡ true → nat_eq k.client l.client ≡ b → b ≡ false
      test true e same = absurd (all.0.2 (eqb-true k.client l.client same) (is ∙ sym (inside l e)))
      test false e same = refl

      on : (b : Bool) → t l ≡ b → AllByRecursion (λ y. nat_eq k.client y ≡ false) (map client_of (filter t ls)) → AllByRecursion (λ y. nat_eq k.client y ≡ false) (map client_of (if b then l ∷ filter t ls else filter t ls))
      on true e ih = (test (nat_eq k.client l.client) e refl, ih)
      on false e ih = ih

  pub space-clients-once : (ks : List Socket) → EachTwo AreApart ks → IsDistinct nat_eq (map client_of (filter t ks))
  unfolding IsDistinct EachTwo
  space-clients-once [] apart = tt
  space-clients-once (k ∷ ks) apart = on (t k) refl (space-clients-once ks apart.1)
    where
      on : (b : Bool) → t k ≡ b → IsDistinct nat_eq (map client_of (filter t ks)) → IsDistinct nat_eq (map client_of (if b then k ∷ filter t ks else filter t ks))
      on true e ih = (others-apart k (inside k e) ks apart.0, ih)
      on false e ih = ih

-- sockets that are apart have different ids
sids-apart : (k : Socket) (ls : List Socket) → AllByRecursion (AreApart k) ls → AllByRecursion (λ y. nat_eq k.sid y ≡ false) (map sid_of ls)
sids-apart k [] all = tt
sids-apart k (l ∷ ls) all = (differs l.sid k.sid (λ e. all.0.0 (sym e)), sids-apart k ls all.1)

pub sids-once : (ks : List Socket) → EachTwo AreApart ks → IsDistinct nat_eq (map sid_of ks)
unfolding IsDistinct EachTwo
sids-once [] apart = tt
sids-once (k ∷ ks) apart = (sids-apart k ks apart.0, sids-once ks apart.1)

-- lists of different ids with the same members are as long
pub same-length : (ks ls : List Socket) → IsDistinct nat_eq (map sid_of ks) → IsDistinct nat_eq (map sid_of ls) → ((p : Socket → Bool) → list_any p ks ≡ list_any p ls) → length ks ≡ length ls
same-length ks ls a b h =
    sym (length-map sid_of ks)
    ∙ length-from_same_keys nat_eq_equiv (map sid_of ks) (map sid_of ls) a b (λ q. any-map (nat_eq q) sid_of ks ∙ h (λ (k : Socket). nat_eq q k.sid) ∙ sym (any-map (nat_eq q) sid_of ls))
    ∙ length-map sid_of ls

-- ---- the entries for a client

-- where no two are of one client, each client of one gets the entry once, and the others nothing
pub entries-once : (e : Entry) (q : ℕ) (ks : List Socket) → IsDistinct nat_eq (map client_of ks)
    → entries_for q (map (λ (k : Socket). (k.client, e)) ks) ≡ (if list_any (λ (k : Socket). k.client == q) ks then e ∷ [] else [])
unfolding IsDistinct
entries-once e q [] once = refl
entries-once e q (k ∷ ks) once = on (k.client == q) refl (entries-once e q ks once.1)
  where
    absent : k.client ≡ q → (ls : List Socket) → AllByRecursion (λ y. nat_eq k.client y ≡ false) (map client_of ls) → list_any (λ (l : Socket). l.client == q) ls ≡ false
    absent is [] all = refl
    absent is (l ∷ ls) all =
        let other : (l.client == q) ≡ false = subst (λ z. (l.client == z) ≡ false) is (differs k.client l.client (λ same. let yes : nat_eq k.client l.client ≡ true = eq-eqb k.client l.client same in let no = all.0 in cc)) in
        rw (other, absent is ls all.1) refl

    on : (b : Bool) → (k.client == q) ≡ b → entries_for q (map (λ (k : Socket). (k.client, e)) ks) ≡ (if list_any (λ (k : Socket). k.client == q) ks then e ∷ [] else [])
        → map (λ (p : ℕ × Entry). p.1) (if b then (k.client, e) ∷ filter (λ (p : ℕ × Entry). p.0 == q) (map (λ (k : Socket). (k.client, e)) ks) else filter (λ (p : ℕ × Entry). p.0 == q) (map (λ (k : Socket). (k.client, e)) ks))
        ≡ (if (b || list_any (λ (k : Socket). k.client == q) ks) then e ∷ [] else [])
    on true is ih = ap (λ l. e ∷ l) (ih ∙ ap (λ t. if t then e ∷ [] else []) (absent (eqb-true k.client q is) ks once.0))
    on false is ih = ih

-- ---- messages that are put one after the other

entries-more : (q : ℕ) (ms : List PlainMessage) (m : PlainMessage) → entries_for q (map pair_of (ms ++ m ∷ [])) ≡ entries_for q (map pair_of ms) ++ (if m.client == q then m.entry ∷ [] else [])
entries-more q [] m = on (m.client == q)
  where
    on : (b : Bool) → map (λ (p : ℕ × Entry). p.1) (if b then pair_of m ∷ [] else []) ≡ (if b then m.entry ∷ [] else [])
    on true = refl
    on false = refl
entries-more q (n ∷ ms) m = on (n.client == q) (entries-more q ms m)
  where
    on : (b : Bool) → entries_for q (map pair_of (ms ++ m ∷ [])) ≡ entries_for q (map pair_of ms) ++ (if m.client == q then m.entry ∷ [] else [])
        → map (λ (p : ℕ × Entry). p.1) (if b then pair_of n ∷ filter (λ (p : ℕ × Entry). p.0 == q) (map pair_of (ms ++ m ∷ [])) else filter (λ (p : ℕ × Entry). p.0 == q) (map pair_of (ms ++ m ∷ [])))
        ≡ map (λ (p : ℕ × Entry). p.1) (if b then pair_of n ∷ filter (λ (p : ℕ × Entry). p.0 == q) (map pair_of ms) else filter (λ (p : ℕ × Entry). p.0 == q) (map pair_of ms)) ++ (if m.client == q then m.entry ∷ [] else [])
    on true ih = ap (λ l. n.entry ∷ l) ih
    on false ih = ih

-- one message more
pub put-more : (find mid new : ℕ → Option PlainClient) (done : List PlainMessage) (m : PlainMessage)
    → ((q : ℕ) → mid q ≡ option_map (with_entries (entries_for q (map pair_of done))) (find q))
    → ((q : ℕ) → new q ≡ (if m.client == q then option_map (with_entry m.entry) (mid q) else mid q))
    → (q : ℕ) → new q ≡ option_map (with_entries (entries_for q (map pair_of (done ++ m ∷ [])))) (find q)
put-more find mid new done m was now q =
    now q ∙ rw (was q) (on (m.client == q) (find q)) ∙ sym (ap (λ es. option_map (with_entries es) (find q)) (entries-more q done m))
  where
    on : (b : Bool) (o : Option PlainClient) → (if b then option_map (with_entry m.entry) (option_map (with_entries (entries_for q (map pair_of done))) o) else option_map (with_entries (entries_for q (map pair_of done))) o)
        ≡ option_map (with_entries (entries_for q (map pair_of done) ++ (if b then m.entry ∷ [] else []))) o
    on true None = refl
    on false None = refl
    on true (Some x) = ap (λ l. Some (record x { outbox = record x.outbox { waiting = l } })) (append_assoc x.outbox.waiting (entries_for q (map pair_of done)) (m.entry ∷ []))
    on false (Some x) = ap (λ l. Some (record x { outbox = record x.outbox { waiting = x.outbox.waiting ++ l } })) (sym (append-nil (entries_for q (map pair_of done))))

none-before : (m : PlainMessage) (done rest : List PlainMessage) → IsDistinct nat_eq (map receiver_of (done ++ m ∷ rest)) → entries_for m.client (map pair_of done) ≡ []
unfolding IsDistinct
none-before m [] rest once = refl
none-before m (n ∷ done) rest once = on (n.client == m.client) refl (none-before m done rest once.1)
  where
    later : (ls : List PlainMessage) → AllByRecursion (λ y. nat_eq n.client y ≡ false) (map receiver_of (ls ++ m ∷ rest)) → nat_eq n.client m.client ≡ false
    later [] all = all.0
    later (l ∷ ls) all = later ls all.1

    on : (b : Bool) → (n.client == m.client) ≡ b → entries_for m.client (map pair_of done) ≡ []
        → map (λ (p : ℕ × Entry). p.1) (if b then pair_of n ∷ filter (λ (p : ℕ × Entry). p.0 == m.client) (map pair_of done) else filter (λ (p : ℕ × Entry). p.0 == m.client) (map pair_of done)) ≡ []
    on true e ih = let no = later done once.0 in cc
    on false e ih = ih

-- the next message has its place still
pub has-place : (find mid : ℕ → Option PlainClient) (m : PlainMessage) (done rest : List PlainMessage)
    → ((q : ℕ) → mid q ≡ option_map (with_entries (entries_for q (map pair_of done))) (find q))
    → IsDistinct nat_eq (map receiver_of (done ++ m ∷ rest)) → AllByRecursion (λ (m : PlainMessage). is_full_in find m.entry m.client ≡ false) (done ++ m ∷ rest)
    → IfSome (mid m.client) (λ known. has_no_space known.outbox.capacity known.outbox.bytes known.outbox.waiting m.entry ≡ false)
has-place find mid m done rest was once places =
    subst (λ o. IfSome o (λ known. has_no_space known.outbox.capacity known.outbox.bytes known.outbox.waiting m.entry ≡ false))
    (sym (was m.client ∙ ap (λ es. option_map (with_entries es) (find m.client)) (none-before m done rest once)))
    (on (find m.client) (later done places))
  where
    later : (ls : List PlainMessage) → AllByRecursion (λ (m : PlainMessage). is_full_in find m.entry m.client ≡ false) (ls ++ m ∷ rest) → is_full_in find m.entry m.client ≡ false
    later [] all = all.0
    later (l ∷ ls) all = later ls all.1

    on : (o : Option PlainClient) → option_map_or (λ (known : PlainClient). has_no_space known.outbox.capacity known.outbox.bytes known.outbox.waiting m.entry) o false ≡ false
        → IfSome (option_map (with_entries []) o) (λ known. has_no_space known.outbox.capacity known.outbox.bytes known.outbox.waiting m.entry ≡ false)
    on None e = tt
    on (Some x) e = rw (append-nil x.outbox.waiting) e

pub split-more : {A : Type 0} (all done rest left : List A) (x : A) → all ≡ done ++ rest → rest ≡ x ∷ left → all ≡ (done ++ x ∷ []) ++ left
split-more all done rest left x was now = was ∙ ap (λ l. done ++ l) now ∙ sym (append_assoc done (x ∷ []) left)

-- ---- those who miss the broadcast, and those who get it

module _ (find : ℕ → Option PlainClient) (e : Entry) where
  pub missing-is : (ks : List Socket) → missing find e ks ≡ map sid_of (filter (λ (k : Socket). is_full_in find e k.client) ks)
  missing-is [] = refl
  missing-is (k ∷ ks) =
      flat_map-cons (missing_of find e) k ks
      ∙ ap (λ l. missing_of find e k ++ l) (missing-is ks)
      ∙ on (is_full_in find e k.client)
    where
      on : (b : Bool) → (if b then k.sid ∷ [] else []) ++ map sid_of (filter (λ (k : Socket). is_full_in find e k.client) ks)
          ≡ map sid_of (if b then k ∷ filter (λ (k : Socket). is_full_in find e k.client) ks else filter (λ (k : Socket). is_full_in find e k.client) ks)
      on true = refl
      on false = refl

  abbrev pub message_to : Socket → PlainMessage
  message_to k = record { client = k.client; entry = e }

  pub messages-are : (ks : List Socket) → messages_for find e ks ≡ map message_to (filter (λ (k : Socket). not (is_full_in find e k.client)) ks)
  messages-are [] = refl
  messages-are (k ∷ ks) =
      flat_map-cons (λ (k : Socket). message_for find e k.client) k ks
      ∙ ap (λ l. message_for find e k.client ++ l) (messages-are ks)
      ∙ on (is_full_in find e k.client)
    where
      on : (b : Bool) → (if b then [] else message_to k ∷ []) ++ map message_to (filter (λ (k : Socket). not (is_full_in find e k.client)) ks)
          ≡ map message_to (if not b then k ∷ filter (λ (k : Socket). not (is_full_in find e k.client)) ks else filter (λ (k : Socket). not (is_full_in find e k.client)) ks)
      on true = refl
      on false = refl

  -- each has space
  pub all-places : (ks : List Socket) → AllByRecursion (λ (m : PlainMessage). is_full_in find m.entry m.client ≡ false) (map message_to (filter (λ (k : Socket). not (is_full_in find e k.client)) ks))
  all-places [] = tt
  all-places (k ∷ ks) = on (is_full_in find e k.client) refl (all-places ks)
    where
      on : (b : Bool) → is_full_in find e k.client ≡ b → AllByRecursion (λ (m : PlainMessage). is_full_in find m.entry m.client ≡ false) (map message_to (filter (λ (k : Socket). not (is_full_in find e k.client)) ks)) → AllByRecursion (λ (m : PlainMessage). is_full_in find m.entry m.client ≡ false) (map message_to (if not b then k ∷ filter (λ (k : Socket). not (is_full_in find e k.client)) ks else filter (λ (k : Socket). not (is_full_in find e k.client)) ks))
      on true is ih = ih
      on false is ih = (is, ih)

  pub map-receivers : (ks : List Socket) → map receiver_of (map message_to ks) ≡ map client_of ks
  map-receivers [] = refl
  map-receivers (k ∷ ks) = ap (λ l. k.client ∷ l) (map-receivers ks)

  pub map-pairs : (ks : List Socket) → map pair_of (map message_to ks) ≡ map (λ (k : Socket). (k.client, e)) ks
  map-pairs [] = refl
  map-pairs (k ∷ ks) = ap (λ l. (k.client, e) ∷ l) (map-pairs ks)
