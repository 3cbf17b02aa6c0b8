-- Both indexes of the connected sockets, with one socket more or less.
use Rattle.std.proofs.Common.{◌≡◌, ℕ, ◌+◌, ◌==◌, Bool, true, false, not, ◌&&◌, ◌||◌, cond, List, [], ◌∷◌, map, filter, refl, sym, ap, subst, ◌∙◌, arith, if◌then◌else◌, None, Some, Result, Ok, Err, nat_le, nat_lt, nat_eq, nat_cmp}
use Rattle.std.specs.Prelude.{IfOk}
use Rattle.std.specs.List.{list_any, AllByRecursion}
use Rattle.std.specs.List.Sorted.{IsStrictlySortedBy}
use Rattle.std.specs.declared.cmp.Ordering.{Ordering}
use Rattle.std.specs.declared.cmp.Ordering.TheVariants.{Less, Equal, Greater}
use Rattle.std.specs.declared.ops.Bound.TheVariants.{Included, Excluded}
use Rattle.std.specs.Ordering.{is_eq, is_le, ordering_then, eq_by_cmp}
use Rattle.std.specs.Cmp.{unsigned_tied}
use Rattle.std.specs.BTreeMap.{is_at}
use Rattle.std.specs.BTreeMap.Range.{range_contains}
use Rattle.std.specs.BTreeSet.{BTreeSet}
use Rattle.std.specs.BTreeSet as sorted
use Rattle.std.proofs.lemmas.Bool.{eqb-true}
use Rattle.std.proofs.lemmas.Bool.Decides.{nat_tests}
use Rattle.terms.specs.Listing.{ListsRising}
use Rattle.journal.specs.declared.socket.Socket.{Socket}
use Rattle.journal.specs.Casting.{is_here}
use Rattle.hub_state.specs.Seats.{SeatMap, seat_cmp, IsIndex, seat_at}

-- ---- pairs of a place and a session id

is_eq-then : (o r : Ordering) → is_eq (ordering_then o r) ≡ (is_eq o && is_eq r)
is_eq-then Less r = refl
is_eq-then Equal r = refl
is_eq-then Greater r = refl

pub at_seat : (p s q t : ℕ) → is_at (seat_cmp (p, s)) (q, t) ≡ ((p == q) && (s == t))
at_seat p s q t = is_eq-then (nat_cmp p q) (nat_cmp s t) ∙ (λ i. unsigned_tied p q i && unsigned_tied s t i)

-- ---- one socket more or less

pub index_empty : (m : SeatMap) (i : BTreeSet (ℕ × ℕ)) → m ≡ [] → sorted.IsEmpty i → IsIndex m i
index_empty m i none no_place = record { mirror = λ p s. ap (list_any (is_at (seat_cmp (p, s)))) no_place ∙ ap (is_here p) (sym (absent s)) }
  where
    absent : (s : ℕ) → seat_at m s ≡ None
    absent s = rw none refl

pub index_same : (m n : SeatMap) (i j : BTreeSet (ℕ × ℕ)) → IsIndex m i → ((s : ℕ) → seat_at n s ≡ seat_at m s) → sorted.IsUnchanged i j → IsIndex n j
index_same m n i j was seats same = record { mirror = λ p s. ap (list_any (is_at (seat_cmp (p, s)))) same ∙ was.mirror p s ∙ ap (is_here p) (sym (seats s)) }

pub index_added : (m n : SeatMap) (i j : BTreeSet (ℕ × ℕ)) (k : Socket) → IsIndex m i → seat_at m k.sid ≡ None
    → ((s : ℕ) → seat_at n s ≡ cond (nat_eq k.sid s) (Some k) (seat_at m s))
    → ((q : ℕ × ℕ) → sorted.contains seat_cmp j q ≡ cond (is_at (seat_cmp (k.space, k.sid)) q) true (sorted.contains seat_cmp i q))
    → IsIndex n j
index_added m n i j k was free seats places = record {
  mirror = λ p s.
      places (p, s)
      ∙ (λ x. cond (at_seat k.space k.sid p s x) true (was.mirror p s x))
      ∙ both (k.sid == s) p s refl
      ∙ ap (is_here p) (sym (seats s));
}
  where
    one : (x : Bool) → cond (x && true) true false ≡ x
    one true = refl
    one false = refl

    none : (x y : Bool) → cond (x && false) true y ≡ y
    none true y = refl
    none false y = refl

    both : (b : Bool) (p s : ℕ) → (k.sid == s) ≡ b → cond ((k.space == p) && b) true (is_here p (seat_at m s)) ≡ is_here p (cond b (Some k) (seat_at m s))
    both true p s same =
        let gone : seat_at m s ≡ None = ap (seat_at m) (sym (eqb-true k.sid s same)) ∙ free in
        ap (λ o. cond ((k.space == p) && true) true (is_here p o)) gone ∙ one (k.space == p)
    both false p s other = none (k.space == p) (is_here p (seat_at m s))

pub index_removed : (m n : SeatMap) (i j : BTreeSet (ℕ × ℕ)) (t : ℕ) (k : Socket) → IsIndex m i → seat_at m t ≡ Some k
    → ((s : ℕ) → seat_at n s ≡ cond (nat_eq t s) None (seat_at m s))
    → ((q : ℕ × ℕ) → sorted.contains seat_cmp j q ≡ cond (is_at (seat_cmp (k.space, t)) q) false (sorted.contains seat_cmp i q))
    → IsIndex n j
index_removed m n i j t k was present seats places = record {
  mirror = λ p s.
      places (p, s)
      ∙ (λ x. cond (at_seat k.space t p s x) false (was.mirror p s x))
      ∙ both (t == s) p s refl
      ∙ ap (is_here p) (sym (seats s));
}
  where
    one : (x : Bool) → cond (x && true) false x ≡ false
    one true = refl
    one false = refl

    none : (x y : Bool) → cond (x && false) false y ≡ y
    none true y = refl
    none false y = refl

    both : (b : Bool) (p s : ℕ) → (t == s) ≡ b → cond ((k.space == p) && b) false (is_here p (seat_at m s)) ≡ is_here p (cond b None (seat_at m s))
    both true p s same =
        let here : seat_at m s ≡ Some k = ap (seat_at m) (sym (eqb-true t s same)) ∙ present in
        ap (λ o. cond ((k.space == p) && true) false (is_here p o)) here ∙ one (k.space == p)
    both false p s other = none (k.space == p) (is_here p (seat_at m s))

-- a socket that wasn't there is taken away
pub index_absent : (m n : SeatMap) (i : BTreeSet (ℕ × ℕ)) (t : ℕ) → IsIndex m i → seat_at m t ≡ None
    → ((s : ℕ) → seat_at n s ≡ cond (nat_eq t s) None (seat_at m s)) → IsIndex n i
index_absent m n i t was absent seats = index_same m n i i was (λ s. seats s ∙ both (t == s) s refl) refl
  where
    both : (b : Bool) (s : ℕ) → (t == s) ≡ b → cond b None (seat_at m s) ≡ seat_at m s
    both true s same = sym (ap (seat_at m) (sym (eqb-true t s same)) ∙ absent)
    both false s other = refl

-- a socket that was put is taken back
pub taken_back : (m n l : SeatMap) (k : Socket) → seat_at m k.sid ≡ None
    → ((s : ℕ) → seat_at n s ≡ cond (nat_eq k.sid s) (Some k) (seat_at m s))
    → ((s : ℕ) → seat_at l s ≡ cond (nat_eq k.sid s) None (seat_at n s))
    → (s : ℕ) → seat_at l s ≡ seat_at m s
taken_back m n l k free put took s =
    took s
    ∙ ap (λ o. cond (nat_eq k.sid s) None o) (put s)
    ∙ both (k.sid == s) refl
  where
    both : (b : Bool) → (k.sid == s) ≡ b → cond b None (cond b (Some k) (seat_at m s)) ≡ seat_at m s
    both true same = sym (ap (seat_at m) (sym (eqb-true k.sid s same)) ∙ free)
    both false other = refl

-- ---- the session ids at a place

zero-below : (s : ℕ) → is_le (nat_cmp 0 s) ≡ true
zero-below s = at (nat_lt 0 s) (0 == s) refl refl
  where
    at : (x y : Bool) → nat_lt 0 s ≡ x → (0 == s) ≡ y → is_le (cond x Less (cond y Equal Greater)) ≡ true
    at true y less same = refl
    at false true less same = refl
    at false false less same = absurd (grind (arith, nat_tests))

from-place : (p : ℕ) (q : ℕ × ℕ) → is_le (seat_cmp (p, 0) q) ≡ nat_le p q.0
from-place p q = at (nat_lt p q.0) (p == q.0) refl refl
  where
    at : (x y : Bool) → nat_lt p q.0 ≡ x → (p == q.0) ≡ y → is_le (ordering_then (cond x Less (cond y Equal Greater)) (nat_cmp 0 q.1)) ≡ nat_le p q.0
    at true y less same = let e : nat_le p q.0 ≡ true = grind (arith, nat_tests) in sym e
    at false true less same = let e : nat_le p q.0 ≡ true = grind (arith, nat_tests) in zero-below q.1 ∙ sym e
    at false false less same = let e : nat_le p q.0 ≡ false = grind (arith, nat_tests) in sym e

-- what lies between a place and the next is at the place
at-place : (p : ℕ) (q : ℕ × ℕ) → range_contains seat_cmp (Included (p, 0)) (Excluded (p + 1, 0)) q ≡ (p == q.0)
at-place p q = (λ i. from-place p q i && not (from-place (p + 1) q i)) ∙ at (nat_le p q.0) (nat_le (p + 1) q.0) (p == q.0) refl refl refl
  where
    at : (x y z : Bool) → nat_le p q.0 ≡ x → nat_le (p + 1) q.0 ≡ y → (p == q.0) ≡ z → (x && not y) ≡ z
    at true true true a b e = absurd (grind (arith, nat_tests))
    at true true false a b e = refl
    at true false true a b e = refl
    at true false false a b e = absurd (grind (arith, nat_tests))
    at false y true a b e = absurd (grind (arith, nat_tests))
    at false y false a b e = refl

module _ (p : ℕ) where
  abbrev sids : List (ℕ × ℕ) → List ℕ
  sids qs = map (λ q. q.1) (filter (λ q. p == q.0) qs)

  rises : (qs : List (ℕ × ℕ)) → IsStrictlySortedBy seat_cmp qs → IsStrictlySortedBy nat_cmp (sids qs)
  unfolding IsStrictlySortedBy
  rises [] h = tt
  rises (q ∷ qs) h = on (p == q.0) refl (rises qs h.1)
    where
      above : (p == q.0) ≡ true → (rs : List (ℕ × ℕ)) → AllByRecursion (λ r. seat_cmp q r ≡ Less) rs → AllByRecursion (λ t. nat_cmp q.1 t ≡ Less) (sids rs)
      above e [] all = tt
      above e (r ∷ rs) all = at (p == r.0) refl (above e rs all.1)
        where
          at : (b : Bool) → (p == r.0) ≡ b → AllByRecursion (λ t. nat_cmp q.1 t ≡ Less) (sids rs)
              → AllByRecursion (λ t. nat_cmp q.1 t ≡ Less) (map (λ q. q.1) (if b then r ∷ filter (λ q. p == q.0) rs else filter (λ q. p == q.0) rs))
          at true here more = (subst (λ o. ordering_then o (nat_cmp q.1 r.1) ≡ Less) (same-place (sym (eqb-true p q.0 e) ∙ eqb-true p r.0 here)) all.0, more)
            where
              same-place : q.0 ≡ r.0 → nat_cmp q.0 r.0 ≡ Equal
              same-place is = let e : nat_cmp q.0 r.0 ≡ Equal = grind (arith, nat_tests) in e
          at false here more = more

      on : (b : Bool) → (p == q.0) ≡ b → IsStrictlySortedBy nat_cmp (sids qs) → IsStrictlySortedBy nat_cmp (map (λ q. q.1) (if b then q ∷ filter (λ q. p == q.0) qs else filter (λ q. p == q.0) qs))
      on true e more = (above e qs h.0, more)
      on false e more = more

  exactly : (s : ℕ) (qs : List (ℕ × ℕ)) → list_any (eq_by_cmp nat_cmp s) (sids qs) ≡ list_any (is_at (seat_cmp (p, s))) qs
  exactly s [] = refl
  exactly s (q ∷ qs) = on (p == q.0) refl (exactly s qs) ∙ (λ i. sym (at_seat p s q.0 q.1) i || list_any (is_at (seat_cmp (p, s))) qs)
    where
      on : (b : Bool) → (p == q.0) ≡ b → list_any (eq_by_cmp nat_cmp s) (sids qs) ≡ list_any (is_at (seat_cmp (p, s))) qs
          → list_any (eq_by_cmp nat_cmp s) (map (λ q. q.1) (if b then q ∷ filter (λ q. p == q.0) qs else filter (λ q. p == q.0) qs)) ≡ ((b && (s == q.1)) || list_any (is_at (seat_cmp (p, s))) qs)
      on true e more = (λ i. unsigned_tied s q.1 i || more i)
      on false e more = more

  pub lists-place : (qs : List (ℕ × ℕ)) → IsStrictlySortedBy seat_cmp qs
      → ListsRising nat_cmp (λ s. list_any (is_at (seat_cmp (p, s))) qs) (map (λ q. q.1) (filter (range_contains seat_cmp (Included (p, 0)) (Excluded (p + 1, 0))) qs))
  lists-place qs ordered =
      subst (λ test. ListsRising nat_cmp (λ s. list_any (is_at (seat_cmp (p, s))) qs) (map (λ q. q.1) (filter test qs))) (λ i q. sym (at-place p q) i)
      (record { rises = rises qs ordered; exactly = λ s. exactly s qs })

-- the list that a look-up gave is this one
pub listed : {X E : Type 0} (test : ℕ → Bool) (items : X → List ℕ) (xs : List ℕ) (r : Result X E) → IfOk r (λ x. items x ≡ xs) → ListsRising nat_cmp test xs → IfOk r (λ x. ListsRising nat_cmp test (items x))
listed test items xs (Ok x) is lists = subst (ListsRising nat_cmp test) (sym is) lists
listed test items xs (Err e) is lists = tt
