-- The indexes of a table with one session more or less.
use Rattle.std.proofs.Common.{◌≡◌, ℕ, ◌<◌, ◌≤◌, ◌==◌, Bool, true, false, not, ◌&&◌, ◌||◌, cond, List, [], ◌∷◌, length, map, filter, refl, sym, ap, subst, ◌∙◌, arith, if◌then◌else◌, Option, None, Some}
use Rattle.std.specs.Prelude.{nat_lt}
use Rattle.std.specs.List.{list_any, find, All, AllByRecursion}
use Rattle.std.specs.Option.{IfSome}
use Rattle.std.proofs.lemmas.List.Elements.{All-head, All-tail}
use Rattle.std.proofs.lemmas.List.Folds.{list_any_none}
use Rattle.std.proofs.lemmas.Map.Views.{All-values_from_lookup}
use Rattle.std.proofs.lemmas.Map.Keys.{IsDistinct-from_sorted}
use Rattle.std.proofs.lemmas.Cmp.{nat_cmp_total, eq_by_cmp_equiv}
use Rattle.std.specs.List.Sorted.{IsStrictlySortedBy}
use Rattle.std.specs.declared.cmp.Ordering.{Ordering}
use Rattle.std.specs.declared.cmp.Ordering.TheVariants.{Less, Equal, Greater}
use Rattle.std.specs.Ordering.{is_eq, is_gt, nat_cmp, ordering_then, match_ordering}
use Rattle.std.specs.Map.{lookup, keys_of, values_of, remove_entry}
use Rattle.std.specs.BTreeMap.{is_at, insert_entry}
use Rattle.std.proofs.lemmas.Bool.Decides.{nat_tests}
use Rattle.recovery.specs.Expiry.{is_outdated}
use Rattle.recovery.specs.SavedTable.{PlainSaved, IsKeyed, IsIndex, IsTable, pair_cmp, has_number, with_session, is_alive}

-- ---- tests of keys

pub same_key : (p k : ℕ) → is_eq (nat_cmp p k) ≡ (p == k)
same_key p k = at (nat_lt p k) (p == k) refl refl
  where
    at : (x y : Bool) → nat_lt p k ≡ x → (p == k) ≡ y → is_eq (cond x Less (cond y Equal Greater)) ≡ y
    at true true less same = absurd (let b : p < k = grind (arith, nat_tests) in let e : p ≡ k = grind (arith, nat_tests) in omega (arith, b, e))
    at true false less same = refl
    at false true less same = refl
    at false false less same = refl

turned : (p k : ℕ) → (p == k) ≡ (k == p)
turned p k = at (p == k) (k == p) refl refl
  where
    at : (x y : Bool) → (p == k) ≡ x → (k == p) ≡ y → x ≡ y
    at true true e f = refl
    at true false e f = absurd (let s : p ≡ k = grind (arith, nat_tests) in let t : (k == p) ≡ true = grind (arith, nat_tests, s) in cc)
    at false true e f = absurd (let s : k ≡ p = grind (arith, nat_tests) in let t : (p == k) ≡ true = grind (arith, nat_tests, s) in cc)
    at false false e f = refl

pub at_key : (p k : ℕ) → is_at (nat_cmp p) k ≡ (k == p)
at_key p k = same_key p k ∙ turned p k

equal_of : (p k : ℕ) → (p == k) ≡ true → p ≡ k
equal_of p k e = grind (arith, nat_tests)

is_eq-then : (o r : Ordering) → is_eq (ordering_then o r) ≡ (is_eq o && is_eq r)
is_eq-then Less r = refl
is_eq-then Equal r = refl
is_eq-then Greater r = refl

pub at_pair : (t p a q : ℕ) → is_at (pair_cmp (t, p)) (a, q) ≡ ((t == a) && (p == q))
at_pair t p a q = is_eq-then (nat_cmp t a) (nat_cmp p q) ∙ (λ i. same_key t a i && same_key p q i)

-- ---- entries by private ids

pub session_found : (es : List (ℕ × PlainSaved)) (p : ℕ) → IsKeyed es → find (λ (s : PlainSaved). s.pid == p) (values_of es) ≡ lookup (is_at (nat_cmp p)) es
unfolding IsKeyed
session_found [] p keyed = refl
session_found (e ∷ es) p keyed =
    (λ i. if keyed.0 i == p then Some e.1 else session_found es p keyed.1 i)
    ∙ ap (λ b. if b then Some e.1 else lookup (is_at (nat_cmp p)) es) (sym (at_key p e.0))

pub keyed_inserted : (es : List (ℕ × PlainSaved)) (s : PlainSaved) → IsKeyed es → IsKeyed (insert_entry nat_cmp es s.pid s)
unfolding IsKeyed
keyed_inserted [] s keyed = (refl, tt)
keyed_inserted (e ∷ es) s keyed = at (nat_lt s.pid e.0) (s.pid == e.0) refl (keyed_inserted es s keyed.1)
  where
    at : (x y : Bool) → (s.pid == e.0) ≡ y → IsKeyed (insert_entry nat_cmp es s.pid s)
        → IsKeyed (match_ordering (cond x Less (cond y Equal Greater)) ((s.pid, s) ∷ e ∷ es) ((e.0, s) ∷ es) (e ∷ insert_entry nat_cmp es s.pid s))
    at true y same more = (refl, keyed)
    at false true same more = (equal_of s.pid e.0 same, keyed.1)
    at false false same more = (keyed.0, more)

pub keyed_removed : (es : List (ℕ × PlainSaved)) (test : ℕ → Bool) → IsKeyed es → IsKeyed (remove_entry test es)
unfolding IsKeyed
keyed_removed [] test keyed = tt
keyed_removed (e ∷ es) test keyed = at (test e.0) (keyed_removed es test keyed.1)
  where
    at : (b : Bool) → IsKeyed (remove_entry test es) → IsKeyed (cond b es (e ∷ remove_entry test es))
    at true less = keyed.1
    at false less = (keyed.0, less)

self_key : (p : ℕ) → is_at (nat_cmp p) p ≡ true
self_key p = same_key p p ∙ (let e : (p == p) ≡ true = grind (arith, nat_tests) in e)

-- a look-up that finds nothing passes the head by
passed_by : (b : Bool) (e : ℕ × PlainSaved) (o : Option PlainSaved) → cond b (Some e.1) o ≡ None → b ≡ false
passed_by true e o absent = absurd (cc)
passed_by false e o absent = refl

-- an entry put in and taken out again
pub put_back : (es : List (ℕ × PlainSaved)) (p : ℕ) (s : PlainSaved) → lookup (is_at (nat_cmp p)) es ≡ None → remove_entry (is_at (nat_cmp p)) (insert_entry nat_cmp es p s) ≡ es
put_back [] p s absent = ap (λ b. cond b [] ((p, s) ∷ [])) (self_key p)
put_back (e ∷ es) p s absent =
    let other : is_at (nat_cmp p) e.0 ≡ false = passed_by (is_at (nat_cmp p) e.0) e (lookup (is_at (nat_cmp p)) es) absent in
    let later : lookup (is_at (nat_cmp p)) es ≡ None = ap (λ b. cond b (Some e.1) (lookup (is_at (nat_cmp p)) es)) (sym other) ∙ absent in
    at (nat_lt p e.0) (p == e.0) (sym (same_key p e.0) ∙ other) other (put_back es p s later)
  where
    at : (x y : Bool) → y ≡ false → is_at (nat_cmp p) e.0 ≡ false → remove_entry (is_at (nat_cmp p)) (insert_entry nat_cmp es p s) ≡ es
        → remove_entry (is_at (nat_cmp p)) (match_ordering (cond x Less (cond y Equal Greater)) ((p, s) ∷ e ∷ es) ((e.0, s) ∷ es) (e ∷ insert_entry nat_cmp es p s)) ≡ e ∷ es
    at true y apart other rest = ap (λ b. cond b (e ∷ es) ((p, s) ∷ remove_entry (is_at (nat_cmp p)) (e ∷ es))) (self_key p)
    at false true apart other rest = absurd (cc)
    at false false apart other rest =
        ap (λ b. cond b (insert_entry nat_cmp es p s) (e ∷ remove_entry (is_at (nat_cmp p)) (insert_entry nat_cmp es p s))) other
        ∙ ap (λ xs. e ∷ xs) rest

-- the sessions with one more
pub values_inserted : (es : List (ℕ × PlainSaved)) (s : PlainSaved) → IsKeyed es → lookup (is_at (nat_cmp s.pid)) es ≡ None → values_of (insert_entry nat_cmp es s.pid s) ≡ with_session s (values_of es)
unfolding IsKeyed
values_inserted [] s keyed absent = refl
values_inserted (e ∷ es) s keyed absent =
    at (nat_lt s.pid e.0) (s.pid == e.0) refl refl (ap (λ k. nat_lt s.pid k) keyed.0) (sym (same_key s.pid e.0)) absent (values_inserted es s keyed.1)
  where
    at : (x y : Bool) → nat_lt s.pid e.0 ≡ x → (s.pid == e.0) ≡ y → nat_lt s.pid e.1.pid ≡ nat_lt s.pid e.0 → (s.pid == e.0) ≡ is_eq (nat_cmp s.pid e.0)
        → cond (is_at (nat_cmp s.pid) e.0) (Some e.1) (lookup (is_at (nat_cmp s.pid)) es) ≡ None
        → (lookup (is_at (nat_cmp s.pid)) es ≡ None → values_of (insert_entry nat_cmp es s.pid s) ≡ with_session s (values_of es))
        → values_of (match_ordering (cond x Less (cond y Equal Greater)) ((s.pid, s) ∷ e ∷ es) ((e.0, s) ∷ es) (e ∷ insert_entry nat_cmp es s.pid s))
        ≡ (if nat_lt s.pid e.1.pid then s ∷ e.1 ∷ values_of es else e.1 ∷ with_session s (values_of es))
    at true y less same head test absent rest = ap (λ b. if b then s ∷ e.1 ∷ values_of es else e.1 ∷ with_session s (values_of es)) (sym (head ∙ less))
    at false true less same head test absent rest = absurd (let b : is_at (nat_cmp s.pid) e.0 ≡ true = sym test ∙ same in let c : cond true (Some e.1) (lookup (is_at (nat_cmp s.pid)) es) ≡ None = ap (λ b. cond b (Some e.1) (lookup (is_at (nat_cmp s.pid)) es)) (sym b) ∙ absent in cc)
    at false false less same head test absent rest =
        let b : is_at (nat_cmp s.pid) e.0 ≡ false = sym test ∙ same in
        let c : lookup (is_at (nat_cmp s.pid)) es ≡ None = ap (λ b. cond b (Some e.1) (lookup (is_at (nat_cmp s.pid)) es)) (sym b) ∙ absent in
        ap (λ xs. e.1 ∷ xs) (rest c) ∙ ap (λ b. if b then s ∷ e.1 ∷ values_of es else e.1 ∷ with_session s (values_of es)) (sym (head ∙ less))

-- the sessions without those of a private id
abbrev without : ℕ → List PlainSaved → List PlainSaved
without p ss = filter (λ (s : PlainSaved). not (s.pid == p)) ss

none_above : (es : List (ℕ × PlainSaved)) (p : ℕ) → IsKeyed es → AllByRecursion (λ k. nat_cmp p k ≡ Less) (keys_of es) → without p (values_of es) ≡ values_of es
unfolding IsKeyed
none_above [] p keyed above = refl
none_above (e ∷ es) p keyed above =
    let test : is_at (nat_cmp p) e.0 ≡ false = ap is_eq above.0 in
    let kept : (e.1.pid == p) ≡ false = ap (λ k. k == p) keyed.0 ∙ sym (at_key p e.0) ∙ test in
    ap (λ b. if not b then e.1 ∷ without p (values_of es) else without p (values_of es)) kept
    ∙ ap (λ xs. e.1 ∷ xs) (none_above es p keyed.1 above.1)

pub values_removed : (es : List (ℕ × PlainSaved)) (p : ℕ) → IsKeyed es → IsStrictlySortedBy nat_cmp (keys_of es) → values_of (remove_entry (is_at (nat_cmp p)) es) ≡ without p (values_of es)
unfolding IsKeyed IsStrictlySortedBy
values_removed [] p keyed rises = refl
values_removed (e ∷ es) p keyed rises =
    at (is_at (nat_cmp p) e.0) refl (ap (λ k. k == p) keyed.0 ∙ sym (at_key p e.0)) (values_removed es p keyed.1 rises.1)
  where
    at : (b : Bool) → is_at (nat_cmp p) e.0 ≡ b → (e.1.pid == p) ≡ is_at (nat_cmp p) e.0 → values_of (remove_entry (is_at (nat_cmp p)) es) ≡ without p (values_of es)
        → values_of (cond b es (e ∷ remove_entry (is_at (nat_cmp p)) es)) ≡ (if not (e.1.pid == p) then e.1 ∷ without p (values_of es) else without p (values_of es))
    at true is test rest =
        let key : e.0 ≡ p = equal_of e.0 p (sym (at_key p e.0) ∙ is) in
        sym (none_above es p keyed.1 (subst (λ k. AllByRecursion (λ q. nat_cmp k q ≡ Less) (keys_of es)) key rises.0))
        ∙ ap (λ b. if not b then e.1 ∷ without p (values_of es) else without p (values_of es)) (sym (test ∙ is))
    at false is test rest =
        ap (λ xs. e.1 ∷ xs) rest
        ∙ ap (λ b. if not b then e.1 ∷ without p (values_of es) else without p (values_of es)) (sym (test ∙ is))

-- ---- one session more or less

-- an index with the pair of one session more
index_added : (number : PlainSaved → ℕ) (es es' : List (ℕ × PlainSaved)) (ks ks' : List (ℕ × ℕ)) (p n : ℕ) (s : PlainSaved) → number s ≡ n → IsIndex number es ks → lookup (is_at (nat_cmp p)) es ≡ None
    → ((q : ℕ) → lookup (is_at (nat_cmp q)) es' ≡ cond (is_at (nat_cmp p) q) (Some s) (lookup (is_at (nat_cmp q)) es))
    → ((q : ℕ × ℕ) → list_any (is_at (pair_cmp q)) ks' ≡ cond (is_at (pair_cmp (n, p)) q) true (list_any (is_at (pair_cmp q)) ks))
    → IsIndex number es' ks'
index_added number es es' ks ks' p n s number_is was absent found noted =
    λ a q. noted (a, q) ∙ (λ i. cond (at_pair n p a q i) true (was a q i)) ∙ both (p == q) a q refl ∙ (λ i. has_number number a (cond (sym (same_key p q) i) (Some s) (lookup (is_at (nat_cmp q)) es))) ∙ ap (has_number number a) (sym (found q))
  where
    one : (x : Bool) → cond (x && true) true false ≡ x
    one true = refl
    one false = refl

    none : (x y : Bool) → cond (x && false) true y ≡ y
    none true y = refl
    none false y = refl

    both : (b : Bool) (a q : ℕ) → (p == q) ≡ b → cond ((n == a) && b) true (has_number number a (lookup (is_at (nat_cmp q)) es)) ≡ has_number number a (cond b (Some s) (lookup (is_at (nat_cmp q)) es))
    both true a q same =
        let gone : lookup (is_at (nat_cmp q)) es ≡ None = ap (λ k. lookup (is_at (nat_cmp k)) es) (sym (equal_of p q same)) ∙ absent in
        ap (λ o. cond ((n == a) && true) true (has_number number a o)) gone ∙ one (n == a) ∙ ap (λ m. m == a) (sym number_is)
    both false a q other = none (n == a) (has_number number a (lookup (is_at (nat_cmp q)) es))

-- an index without the pair of one session
index_removed : (number : PlainSaved → ℕ) (es es' : List (ℕ × PlainSaved)) (ks ks' : List (ℕ × ℕ)) (p n : ℕ) (s : PlainSaved) → number s ≡ n → IsIndex number es ks → lookup (is_at (nat_cmp p)) es ≡ Some s
    → ((q : ℕ) → lookup (is_at (nat_cmp q)) es' ≡ cond (is_at (nat_cmp p) q) None (lookup (is_at (nat_cmp q)) es))
    → ((q : ℕ × ℕ) → list_any (is_at (pair_cmp q)) ks' ≡ cond (is_at (pair_cmp (n, p)) q) false (list_any (is_at (pair_cmp q)) ks))
    → IsIndex number es' ks'
index_removed number es es' ks ks' p n s number_is was present found noted =
    λ a q. noted (a, q) ∙ (λ i. cond (at_pair n p a q i) false (was a q i)) ∙ both (p == q) a q refl ∙ (λ i. has_number number a (cond (sym (same_key p q) i) None (lookup (is_at (nat_cmp q)) es))) ∙ ap (has_number number a) (sym (found q))
  where
    one : (x : Bool) → cond (x && true) false x ≡ false
    one true = refl
    one false = refl

    none : (x y : Bool) → cond (x && false) false y ≡ y
    none true y = refl
    none false y = refl

    both : (b : Bool) (a q : ℕ) → (p == q) ≡ b → cond ((n == a) && b) false (has_number number a (lookup (is_at (nat_cmp q)) es)) ≡ has_number number a (cond b None (lookup (is_at (nat_cmp q)) es))
    both true a q same =
        let here : lookup (is_at (nat_cmp q)) es ≡ Some s = ap (λ k. lookup (is_at (nat_cmp k)) es) (sym (equal_of p q same)) ∙ present in
        ap (λ o. cond ((n == a) && true) false (has_number number a o)) here ∙ ap (λ m. cond ((n == a) && true) false (m == a)) number_is ∙ one (n == a)
    both false a q other = none (n == a) (has_number number a (lookup (is_at (nat_cmp q)) es))

-- a pair put into an index and taken out again
pub index_put_back : (number : PlainSaved → ℕ) (es : List (ℕ × PlainSaved)) (ks ks' ks'' : List (ℕ × ℕ)) (p n : ℕ) → IsIndex number es ks → lookup (is_at (nat_cmp p)) es ≡ None
    → ((q : ℕ × ℕ) → list_any (is_at (pair_cmp q)) ks' ≡ cond (is_at (pair_cmp (n, p)) q) true (list_any (is_at (pair_cmp q)) ks))
    → ((q : ℕ × ℕ) → list_any (is_at (pair_cmp q)) ks'' ≡ cond (is_at (pair_cmp (n, p)) q) false (list_any (is_at (pair_cmp q)) ks'))
    → IsIndex number es ks''
index_put_back number es ks ks' ks'' p n was absent put taken =
    λ a q. taken (a, q) ∙ (λ i. cond (at_pair n p a q i) false (put (a, q) i)) ∙ (λ i. cond ((n == a) && (p == q)) false (cond (at_pair n p a q i) true (was a q i))) ∙ both (p == q) a q refl
  where
    one : (x : Bool) → cond (x && true) false (cond (x && true) true false) ≡ false
    one true = refl
    one false = refl

    none : (x y : Bool) → cond (x && false) false (cond (x && false) true y) ≡ y
    none true y = refl
    none false y = refl

    both : (b : Bool) (a q : ℕ) → (p == q) ≡ b → cond ((n == a) && b) false (cond ((n == a) && b) true (has_number number a (lookup (is_at (nat_cmp q)) es))) ≡ has_number number a (lookup (is_at (nat_cmp q)) es)
    both true a q same =
        let gone : lookup (is_at (nat_cmp q)) es ≡ None = ap (λ k. lookup (is_at (nat_cmp k)) es) (sym (equal_of p q same)) ∙ absent in
        ap (λ o. cond ((n == a) && true) false (cond ((n == a) && true) true (has_number number a o))) gone ∙ one (n == a) ∙ ap (has_number number a) (sym gone)
    both false a q other = none (n == a) (has_number number a (lookup (is_at (nat_cmp q)) es))

-- nothing put into an index
pub index_same : (number : PlainSaved → ℕ) (es : List (ℕ × PlainSaved)) (ks ks' : List (ℕ × ℕ)) → IsIndex number es ks → ks' ≡ ks → IsIndex number es ks'
index_same number es ks ks' was same = subst (IsIndex number es) (sym same) was

-- a table with one session more, whose numbers were read before
pub table_put : (es es' : List (ℕ × PlainSaved)) (ks ks' ls ls' : List (ℕ × ℕ)) (s : PlainSaved) (p t n : ℕ) → s.pid ≡ p → s.lost_at ≡ t → s.sid ≡ n → IsTable es ks ls → lookup (is_at (nat_cmp p)) es ≡ None
    → es' ≡ insert_entry nat_cmp es p s → IsStrictlySortedBy nat_cmp (keys_of es')
    → ((q : ℕ) → lookup (is_at (nat_cmp q)) es' ≡ cond (is_at (nat_cmp p) q) (Some s) (lookup (is_at (nat_cmp q)) es))
    → ((q : ℕ × ℕ) → list_any (is_at (pair_cmp q)) ks' ≡ cond (is_at (pair_cmp (t, p)) q) true (list_any (is_at (pair_cmp q)) ks))
    → ((q : ℕ × ℕ) → list_any (is_at (pair_cmp q)) ls' ≡ cond (is_at (pair_cmp (n, p)) q) true (list_any (is_at (pair_cmp q)) ls))
    → IsTable es' ks' ls'
table_put es es' ks ks' ls ls' s p t n pid_is lost_is sid_is was absent put rises found lost noted = record {
  keyed = subst IsKeyed (sym (put ∙ ap (λ k. insert_entry nat_cmp es k s) (sym pid_is))) (keyed_inserted es s was.keyed);
  rises = rises;
  losses = index_added (λ x. x.lost_at) es es' ks ks' p t s lost_is was.losses absent found lost;
  sids = index_added (λ x. x.sid) es es' ls ls' p n s sid_is was.sids absent found noted;
}

-- a table with one session less, whose numbers were read before
pub table_taken : (es es' : List (ℕ × PlainSaved)) (ks ks' ls ls' : List (ℕ × ℕ)) (p t n : ℕ) (s : PlainSaved) → s.lost_at ≡ t → s.sid ≡ n → IsTable es ks ls → lookup (is_at (nat_cmp p)) es ≡ Some s
    → es' ≡ remove_entry (is_at (nat_cmp p)) es → IsStrictlySortedBy nat_cmp (keys_of es')
    → ((q : ℕ) → lookup (is_at (nat_cmp q)) es' ≡ cond (is_at (nat_cmp p) q) None (lookup (is_at (nat_cmp q)) es))
    → ((q : ℕ × ℕ) → list_any (is_at (pair_cmp q)) ks' ≡ cond (is_at (pair_cmp (t, p)) q) false (list_any (is_at (pair_cmp q)) ks))
    → ((q : ℕ × ℕ) → list_any (is_at (pair_cmp q)) ls' ≡ cond (is_at (pair_cmp (n, p)) q) false (list_any (is_at (pair_cmp q)) ls))
    → IsTable es' ks' ls'
table_taken es es' ks ks' ls ls' p t n s lost_is sid_is was present taken rises found lost noted = record {
  keyed = subst IsKeyed (sym taken) (keyed_removed es (is_at (nat_cmp p)) was.keyed);
  rises = rises;
  losses = index_removed (λ x. x.lost_at) es es' ks ks' p t s lost_is was.losses present found lost;
  sids = index_removed (λ x. x.sid) es es' ls ls' p n s sid_is was.sids present found noted;
}

-- the sessions are the same again, and so is what the indexes have
pub table_back : (es es' : List (ℕ × PlainSaved)) (ks ks' ls ls' : List (ℕ × ℕ)) → IsTable es ks ls → es' ≡ es → IsIndex (λ s. s.lost_at) es ks' → IsIndex (λ s. s.sid) es ls' → IsTable es' ks' ls'
table_back es es' ks ks' ls ls' was same losses sids = subst (λ xs. IsTable xs ks' ls') (sym same) (record { keyed = was.keyed; rises = was.rises; losses = losses; sids = sids })

pub table_empty : (es : List (ℕ × PlainSaved)) (ks ls : List (ℕ × ℕ)) → es ≡ [] → ks ≡ [] → ls ≡ [] → IsTable es ks ls
unfolding IsKeyed IsStrictlySortedBy
table_empty es ks ls no_es no_ks no_ls =
    subst (λ xs. IsTable xs ks ls) (sym no_es) (record { keyed = tt; rises = tt; losses = λ a q. ap (list_any (is_at (pair_cmp (a, q)))) no_ks; sids = λ a q. ap (list_any (is_at (pair_cmp (a, q)))) no_ls })

-- a list with no first element
pub none_first : (ks : List (ℕ × ℕ)) → (0 < length ks → false ≡ true) → ks ≡ []
none_first [] h = refl
none_first (k ∷ ks) h = absurd (let e : false ≡ true = h (omega arith) in cc)

pub filter_less : (p : PlainSaved → Bool) (xs : List PlainSaved) → length (filter p xs) ≤ length xs
filter_less p [] = omega arith
filter_less p (x ∷ xs) = at (p x) (filter_less p xs)
  where
    at : (b : Bool) → length (filter p xs) ≤ length xs → length (if b then x ∷ filter p xs else filter p xs) ≤ length (x ∷ xs)
    at true less = omega (arith, less)
    at false less = omega (arith, less)

-- ---- a sweep

-- one session less
pub taken_fewer : (es : List (ℕ × PlainSaved)) (test : ℕ → Bool) (s : PlainSaved) → lookup test es ≡ Some s → length (values_of (remove_entry test es)) < length (values_of es)
taken_fewer [] test s found = absurd (cc)
taken_fewer (e ∷ es) test s found = at (test e.0) found (taken_fewer es test s)
  where
    at : (b : Bool) → cond b (Some e.1) (lookup test es) ≡ Some s → (lookup test es ≡ Some s → length (values_of (remove_entry test es)) < length (values_of es))
        → length (values_of (cond b es (e ∷ remove_entry test es))) < length (e.1 ∷ values_of es)
    at true found rest = omega arith
    at false found rest = let less = rest found in omega (arith, less)

-- the taken session was outdated, so the same sessions are alive
pub alive_kept : (es : List (ℕ × PlainSaved)) (test : ℕ → Bool) (s : PlainSaved) (keep now : ℕ) → lookup test es ≡ Some s → is_alive keep now s ≡ false
    → filter (is_alive keep now) (values_of (remove_entry test es)) ≡ filter (is_alive keep now) (values_of es)
alive_kept [] test s keep now found outdated = refl
alive_kept (e ∷ es) test s keep now found outdated = at (test e.0) found (alive_kept es test s keep now)
  where
    at : (b : Bool) → cond b (Some e.1) (lookup test es) ≡ Some s → (lookup test es ≡ Some s → is_alive keep now s ≡ false → filter (is_alive keep now) (values_of (remove_entry test es)) ≡ filter (is_alive keep now) (values_of es))
        → filter (is_alive keep now) (values_of (cond b es (e ∷ remove_entry test es))) ≡ (if is_alive keep now e.1 then e.1 ∷ filter (is_alive keep now) (values_of es) else filter (is_alive keep now) (values_of es))
    at true found rest =
        let same : s ≡ e.1 = cc in
        let dead : is_alive keep now e.1 ≡ false = ap (is_alive keep now) (sym same) ∙ outdated in
        ap (λ b. if b then e.1 ∷ filter (is_alive keep now) (values_of es) else filter (is_alive keep now) (values_of es)) (sym dead)
    at false found rest = ap (λ xs. if is_alive keep now e.1 then e.1 ∷ xs else xs) (rest found outdated)

all_kept : (xs : List PlainSaved) (keep now : ℕ) → All (λ x. is_alive keep now x ≡ true) xs → filter (is_alive keep now) xs ≡ xs
all_kept [] keep now all = refl
all_kept (x ∷ xs) keep now all =
    ap (λ b. if b then x ∷ filter (is_alive keep now) xs else filter (is_alive keep now) xs) (All-head (λ x. is_alive keep now x ≡ true) x xs all)
    ∙ ap (λ ys. x ∷ ys) (all_kept xs keep now (All-tail (λ x. is_alive keep now x ≡ true) x xs all))

alive_later : (keep now t a : ℕ) → is_outdated keep now t ≡ false → t ≤ a → not (is_outdated keep now a) ≡ true
alive_later keep now t a fresh later = let test : is_outdated keep now a ≡ false = grind (arith, nat_tests, fresh) in ap not test

not_above : (t p a q : ℕ) → is_gt (pair_cmp (t, p) (a, q)) ≡ false → t ≤ a
not_above t p a q h = at (nat_lt t a) (t == a) refl refl h
  where
    at : (x y : Bool) → nat_lt t a ≡ x → (t == a) ≡ y → is_gt (ordering_then (cond x Less (cond y Equal Greater)) (nat_cmp p q)) ≡ false → t ≤ a
    at true y less same h = let b : t < a = grind (arith, nat_tests) in omega (arith, b)
    at false true less same h = let e : t ≡ a = grind (arith, nat_tests) in omega (arith, e)
    at false false less same h = absurd (cc)

-- where the session that was lost first is alive, all are
pub all_alive : (es : List (ℕ × PlainSaved)) (ks ls : List (ℕ × ℕ)) (t p keep now : ℕ) → IsTable es ks ls → ((q : ℕ × ℕ) → list_any (is_at (pair_cmp q)) ks ≡ true → is_gt (pair_cmp (t, p) q) ≡ false) → is_outdated keep now t ≡ false
    → filter (is_alive keep now) (values_of es) ≡ values_of es
all_alive es ks ls t p keep now is least fresh =
    all_kept (values_of es) keep now
    (All-values_from_lookup (eq_by_cmp_equiv nat_cmp_total) (λ x. is_alive keep now x ≡ true) es (IsDistinct-from_sorted nat_cmp (keys_of es) is.rises) (λ q. at q (lookup (is_at (nat_cmp q)) es) refl))
  where
    at : (q : ℕ) (o : Option PlainSaved) → lookup (is_at (nat_cmp q)) es ≡ o → IfSome o (λ x. is_alive keep now x ≡ true)
    at q None found = tt
    at q (Some x) found =
        let here : list_any (is_at (pair_cmp (x.lost_at, q))) ks ≡ true = is.losses x.lost_at q ∙ ap (has_number (λ s. s.lost_at) x.lost_at) found ∙ (let e : (x.lost_at == x.lost_at) ≡ true = grind (arith, nat_tests) in e) in
        alive_later keep now t x.lost_at fresh (not_above t p x.lost_at q (least (x.lost_at, q) here))

-- with no loss there is no session
pub none_lost : (es : List (ℕ × PlainSaved)) (ks ls : List (ℕ × ℕ)) → IsTable es ks ls → ks ≡ [] → es ≡ []
none_lost [] ks ls is none = refl
none_lost (e ∷ es) ks ls is none =
    let found : lookup (is_at (nat_cmp e.0)) (e ∷ es) ≡ Some e.1 = ap (λ b. cond b (Some e.1) (lookup (is_at (nat_cmp e.0)) es)) (self_key e.0) in
    let here : list_any (is_at (pair_cmp (e.1.lost_at, e.0))) ks ≡ true = is.losses e.1.lost_at e.0 ∙ ap (has_number (λ s. s.lost_at) e.1.lost_at) found ∙ (let t : (e.1.lost_at == e.1.lost_at) ≡ true = grind (arith, nat_tests) in t) in
    let gone : list_any (is_at (pair_cmp (e.1.lost_at, e.0))) ks ≡ false = ap (list_any (is_at (pair_cmp (e.1.lost_at, e.0)))) none in
    absurd (cc)

-- the session of a loss
pub lost_session : (es : List (ℕ × PlainSaved)) (ks ls : List (ℕ × ℕ)) (t p : ℕ) → IsTable es ks ls → list_any (is_at (pair_cmp (t, p))) ks ≡ true → (s : PlainSaved) × ((lookup (is_at (nat_cmp p)) es ≡ Some s) × (s.lost_at ≡ t))
lost_session es ks ls t p is here = at (lookup (is_at (nat_cmp p)) es) refl
  where
    at : (o : Option PlainSaved) → lookup (is_at (nat_cmp p)) es ≡ o → (s : PlainSaved) × ((o ≡ Some s) × (s.lost_at ≡ t))
    at None found = absurd (let no : has_number (λ s. s.lost_at) t None ≡ true = ap (has_number (λ s. s.lost_at) t) (sym found) ∙ sym (is.losses t p) ∙ here in cc)
    at (Some s) found = (s, (refl, equal_of s.lost_at t (ap (has_number (λ s. s.lost_at) t) (sym found) ∙ sym (is.losses t p) ∙ here)))

-- the private ids rise
pub pids_rise : (es : List (ℕ × PlainSaved)) → IsKeyed es → map (λ (s : PlainSaved). s.pid) (values_of es) ≡ keys_of es
unfolding IsKeyed
pids_rise [] keyed = refl
pids_rise (e ∷ es) keyed = λ i. keyed.0 i ∷ pids_rise es keyed.1 i

-- ---- sessions of one number

some_found : (number : PlainSaved → ℕ) (n : ℕ) (es : List (ℕ × PlainSaved)) (test : ℕ → Bool) → has_number number n (lookup test es) ≡ true → list_any (λ s. number s == n) (values_of es) ≡ true
some_found number n [] test has = absurd (cc)
some_found number n (e ∷ es) test has = at (test e.0) has (some_found number n es test)
  where
    or_true : (x : Bool) → (x || true) ≡ true
    or_true true = refl
    or_true false = refl

    at : (b : Bool) → has_number number n (cond b (Some e.1) (lookup test es)) ≡ true → (has_number number n (lookup test es) ≡ true → list_any (λ s. number s == n) (values_of es) ≡ true)
        → ((number e.1 == n) || list_any (λ s. number s == n) (values_of es)) ≡ true
    at true has rest = ap (λ b. b || list_any (λ s. number s == n) (values_of es)) has
    at false has rest = ap (λ b. (number e.1 == n) || b) (rest has) ∙ or_true (number e.1 == n)

-- no pair has the number, so no session has it
none_found : (number : PlainSaved → ℕ) (n : ℕ) (es : List (ℕ × PlainSaved)) (ks : List (ℕ × ℕ)) → IsStrictlySortedBy nat_cmp (keys_of es) → IsIndex number es ks → ((p : ℕ) → list_any (is_at (pair_cmp (n, p))) ks ≡ false)
    → list_any (λ s. number s == n) (values_of es) ≡ false
none_found number n es ks rises is none =
    list_any_none (λ s. number s == n) (values_of es)
    (All-values_from_lookup (eq_by_cmp_equiv nat_cmp_total) (λ x. (number x == n) ≡ false) es (IsDistinct-from_sorted nat_cmp (keys_of es) rises) (λ q. at q (lookup (is_at (nat_cmp q)) es) refl))
  where
    at : (q : ℕ) (o : Option PlainSaved) → lookup (is_at (nat_cmp q)) es ≡ o → IfSome o (λ x. (number x == n) ≡ false)
    at q None found = tt
    at q (Some x) found = ap (has_number number n) (sym found) ∙ sym (is n q) ∙ none q

-- 0 is the least second number
from_zero : (n low p : ℕ) → low ≡ 0 → is_gt (pair_cmp (n, low) (n, p)) ≡ false
from_zero n low p zero = subst (λ z. is_gt (pair_cmp (n, z) (n, p)) ≡ false) (sym zero) (at (nat_lt n n) (n == n) (nat_lt 0 p) (0 == p) refl refl refl refl)
  where
    at : (x y z w : Bool) → nat_lt n n ≡ x → (n == n) ≡ y → nat_lt 0 p ≡ z → (0 == p) ≡ w → is_gt (ordering_then (cond x Less (cond y Equal Greater)) (cond z Less (cond w Equal Greater))) ≡ false
    at true y z w less same low zero = refl
    at false true true w less same low zero = refl
    at false true false true less same low zero = refl
    at false true false false less same low zero = absurd (let b : p ≤ 0 = grind (arith, nat_tests) in let e : (0 == p) ≡ true = grind (arith, nat_tests, b) in cc)
    at false false z w less same low zero = absurd (let e : (n == n) ≡ true = grind (arith, nat_tests) in cc)

-- no pair stands from the number on, so no session has it
pub none_from : (number : PlainSaved → ℕ) (n low : ℕ) → low ≡ 0 → (es : List (ℕ × PlainSaved)) (ks : List (ℕ × ℕ)) → IsStrictlySortedBy nat_cmp (keys_of es) → IsIndex number es ks
    → ((q : ℕ × ℕ) → is_gt (pair_cmp (n, low) q) ≡ false → list_any (is_at (pair_cmp q)) ks ≡ false)
    → list_any (λ s. number s == n) (values_of es) ≡ false
none_from number n low zero es ks rises is none = none_found number n es ks rises is (λ p. none (n, p) (from_zero n low p zero))

-- the first pair from the number on has it where any session has it
pub first_from : (number : PlainSaved → ℕ) (n low : ℕ) → low ≡ 0 → (es : List (ℕ × PlainSaved)) (ks : List (ℕ × ℕ)) (k : ℕ × ℕ) → IsStrictlySortedBy nat_cmp (keys_of es) → IsIndex number es ks
    → list_any (is_at (pair_cmp k)) ks ≡ true → is_gt (pair_cmp (n, low) k) ≡ false
    → ((q : ℕ × ℕ) → is_gt (pair_cmp (n, low) q) ≡ false → list_any (is_at (pair_cmp q)) ks ≡ true → is_gt (pair_cmp k q) ≡ false)
    → (k.0 == n) ≡ list_any (λ s. number s == n) (values_of es)
first_from number n low zero es ks k rises is here above least = at (k.0 == n) refl
  where
    other : (k.0 == n) ≡ false → (p : ℕ) (b : Bool) → list_any (is_at (pair_cmp (n, p))) ks ≡ b → b ≡ false
    other differs p false stands = refl
    other differs p true stands = absurd
        (let lower : n ≤ k.0 = not_above n low k.0 k.1 above in
        let upper : k.0 ≤ n = not_above k.0 k.1 n p (least (n, p) (from_zero n low p zero) stands) in
        let e : k.0 ≡ n = omega (arith, lower, upper) in
        let same : (k.0 == n) ≡ true = grind (arith, nat_tests, e) in cc)

    at : (b : Bool) → (k.0 == n) ≡ b → b ≡ list_any (λ s. number s == n) (values_of es)
    at true same =
        let stands : list_any (is_at (pair_cmp (n, k.1))) ks ≡ true = subst (λ m. list_any (is_at (pair_cmp (m, k.1))) ks ≡ true) (equal_of k.0 n same) here in
        sym (some_found number n es (is_at (nat_cmp k.1)) (sym (is n k.1) ∙ stands))
    at false differs = sym (none_found number n es ks rises is (λ p. other differs p (list_any (is_at (pair_cmp (n, p))) ks) refl))
