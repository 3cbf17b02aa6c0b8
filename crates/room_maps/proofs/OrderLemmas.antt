-- The orders of sockets, rooms and pairs, and what lists hold by them.
use Rattle.std.proofs.Common.{◌≡◌, ℕ, Bool, true, false, ◌&&◌, ◌||◌, cond, List, [], ◌∷◌, map, length, refl, sym, ap, ◌∙◌, subst, Ordering, Less, Equal, Greater, is_eq, nat_cmp, true≢false, rules, ◌+◌, ◌≤◌, add-one, arith}
use Rattle.std.specs.Cmp.Lexicographic.{nat_list_eq_equiv, bytes_decides, nat_list_cmp_total}
use Rattle.std.specs.Ordering.{eq_by_cmp, ordering_then}
use Rattle.std.specs.Cmp.{IsTotalOrder, nat_cmp_total, eq_by_cmp_equiv, Equal-is, tied_itself}
use Rattle.std.specs.Cmp.Rules.{comparing}
use Rattle.std.specs.List.{flat_map, filter, list_any, AllByRecursion}
use Rattle.std.specs.List.Sorted.{IsStrictlySortedBy}
use Rattle.std.specs.FinSet as set
use Rattle.std.specs.FinSet.{IsAntisymmetric, nat_cmp-IsAntisymmetric, slice_cmp-IsAntisymmetric, contains-from_list, len-empty, len-insert}
use Rattle.std.proofs.lemmas.List.Folds.{list_any-append}
use Rattle.terms.specs.Room.{room_cmp, same_room}
use Rattle.room_maps.specs.Membership.{pair_cmp}
use Rattle.room_maps.proofs.BooleanLemmas.{same_bool}

pub pair_cmp_total : IsTotalOrder pair_cmp
pair_cmp_total = search (comparing, rules)

pub room_cmp-IsAntisymmetric : IsAntisymmetric room_cmp
room_cmp-IsAntisymmetric = slice_cmp-IsAntisymmetric nat_cmp-IsAntisymmetric

pub then-eq : (p q : Ordering) → is_eq (ordering_then p q) ≡ (is_eq p && is_eq q)
then-eq Less q = refl
then-eq Equal q = refl
then-eq Greater q = refl

then-Equal : (p q : Ordering) → ordering_then p q ≡ Equal → (p ≡ Equal) × (q ≡ Equal)
then-Equal Less q e = absurd (true≢false (sym (ap is_eq e)))
then-Equal Equal q e = (refl, e)
then-Equal Greater q e = absurd (true≢false (sym (ap is_eq e)))

pub pair_cmp-IsAntisymmetric : IsAntisymmetric pair_cmp
pair_cmp-IsAntisymmetric x y e =
    let h = then-Equal (nat_cmp x.0 y.0) (room_cmp x.1 y.1) e in
    λ i. (nat_cmp-IsAntisymmetric x.0 y.0 h.0 i, room_cmp-IsAntisymmetric x.1 y.1 h.1 i)

-- ---- what compares as equal is equal

pub nat_tied : (s q : ℕ) → eq_by_cmp nat_cmp s q ≡ true → s ≡ q
nat_tied s q e = nat_cmp-IsAntisymmetric s q ((Equal-is (nat_cmp s q)).0 e)

pub room_tied : (r q : List ℕ) → eq_by_cmp room_cmp r q ≡ true → r ≡ q
room_tied r q e = room_cmp-IsAntisymmetric r q ((Equal-is (room_cmp r q)).0 e)

pub pair_tied : (p q : ℕ × List ℕ) → eq_by_cmp pair_cmp p q ≡ true → p ≡ q
pair_tied p q e = pair_cmp-IsAntisymmetric p q ((Equal-is (pair_cmp p q)).0 e)

pub nat_itself : (s : ℕ) → eq_by_cmp nat_cmp s s ≡ true
nat_itself s = ap is_eq (tied_itself nat_cmp_total s)

pub room_itself : (r : List ℕ) → eq_by_cmp room_cmp r r ≡ true
room_itself r = ap is_eq (tied_itself nat_list_cmp_total r)

pub eq-pair : (s : ℕ) (r : List ℕ) (q : ℕ × List ℕ) → eq_by_cmp pair_cmp q (s, r) ≡ (eq_by_cmp nat_cmp s q.0 && eq_by_cmp room_cmp r q.1)
eq-pair s r q = (eq_by_cmp_equiv pair_cmp_total).symm q (s, r) ∙ then-eq (nat_cmp s q.0) (room_cmp r q.1)

pub same_room_itself : (r : List ℕ) → same_room r r ≡ true
same_room_itself r = nat_list_eq_equiv.refl r

pub same_room_is : (r q : List ℕ) → same_room r q ≡ true → r ≡ q
same_room_is r q e = (bytes_decides r q).0 e

-- `==` of rooms says the same as their order
pub same_room-cmp : (r q : List ℕ) → eq_by_cmp room_cmp r q ≡ same_room r q
same_room-cmp r q =
    same_bool (eq_by_cmp room_cmp r q) (same_room r q)
    (λ e. subst (λ z. same_room r z ≡ true) (room_tied r q e) (same_room_itself r))
    (λ e. subst (λ z. eq_by_cmp room_cmp r z ≡ true) (same_room_is r q e) (room_itself r))

-- ---- membership in a list made of parts

module _ {A B : Type 0} (p : B → Bool) (f : A → B) where
  pub list_any-map : (xs : List A) → list_any p (map f xs) ≡ list_any (λ x. p (f x)) xs
  list_any-map [] = refl
  list_any-map (x ∷ xs) = ap (λ b. p (f x) || b) (list_any-map xs)

module _ {A : Type 0} (b : Bool) (p : A → Bool) where
  pub list_any-and : (xs : List A) → list_any (λ x. b && p x) xs ≡ (b && list_any p xs)
  list_any-and [] = elim b as (λ b. false ≡ (b && false)) [ true ↦ refl | false ↦ refl ]
  list_any-and (x ∷ xs) = ap (λ c. (b && p x) || c) (list_any-and xs) ∙ both b (p x) (list_any p xs)
    where
      both : (b c d : Bool) → ((b && c) || (b && d)) ≡ (b && (c || d))
      both true c d = refl
      both false c d = refl

module _ {A B : Type 0} (p : B → Bool) (f : A → List B) where
  pub list_any-flat_map : (xs : List A) → list_any p (flat_map f xs) ≡ list_any (λ x. list_any p (f x)) xs
  list_any-flat_map [] = refl
  list_any-flat_map (x ∷ xs) = list_any-append p (f x) (flat_map f xs) ∙ ap (λ b. list_any p (f x) || b) (list_any-flat_map xs)

module _ {A : Type 0} (e : A → Bool) (f : A → Bool) (v : Bool) (same : (x : A) → e x ≡ true → f x ≡ v) where
  pub list_any-at : (xs : List A) → list_any (λ x. e x && f x) xs ≡ (list_any e xs && v)
  list_any-at [] = refl
  list_any-at (x ∷ xs) = ap (λ b. (e x && f x) || b) (list_any-at xs) ∙ at (e x) (same x)
    where
      at : (b : Bool) → (b ≡ true → f x ≡ v) → ((b && f x) || (list_any e xs && v)) ≡ ((b || list_any e xs) && v)
      at true h = ap (λ c. c || (list_any e xs && v)) (h refl) ∙ absorb v (list_any e xs)
        where
          absorb : (v c : Bool) → (v || (c && v)) ≡ v
          absorb true c = refl
          absorb false true = refl
          absorb false false = refl
      at false h = refl

module _ {A : Type 0} (p f : A → Bool) where
  pub list_any-filter : (xs : List A) → list_any p (filter f xs) ≡ list_any (λ x. f x && p x) xs
  list_any-filter [] = refl
  list_any-filter (x ∷ xs) = elim (f x) as (λ b. list_any p (cond b (x ∷ filter f xs) (filter f xs)) ≡ ((b && p x) || list_any (λ x. f x && p x) xs)) [ true ↦ ap (λ b. p x || b) (list_any-filter xs) | false ↦ list_any-filter xs ]

-- ---- sets that are made of a list

pub none_equal : {K : Type 0} (R : K → K → Ordering) (k : K) (ks : List K) → AllByRecursion (λ y. R k y ≡ Less) ks → list_any (eq_by_cmp R k) ks ≡ false
none_equal R k [] h = refl
none_equal R k (x ∷ ks) h = ap (λ o. is_eq o || list_any (eq_by_cmp R k) ks) h.0 ∙ none_equal R k ks h.1

pub len-from_sorted : {K : Type 0} {R : K → K → Ordering} (o : IsTotalOrder R) (ks : List K) → IsStrictlySortedBy R ks → set.len (set.from_list {R = R} ks) ≡ length ks
unfolding IsStrictlySortedBy
len-from_sorted {R = R} o [] h = len-empty R
len-from_sorted {R = R} o (k ∷ ks) h =
    len-insert o (set.from_list ks) k
    ∙ ap (λ b. cond b (set.len (set.from_list {R = R} ks)) (set.len (set.from_list {R = R} ks) + 1)) (contains-from_list o ks k ∙ none_equal R k ks h.0)
    ∙ ap (λ n. n + 1) (len-from_sorted o ks h.1)
    ∙ add-one (length ks)

-- whether a room is named, and what it then adds to the number of rooms
pub named_among : (x : List ℕ) (ys : List (List ℕ)) → list_any (λ y. same_room y x) ys ≡ set.contains (set.from_list {R = room_cmp} ys) x
named_among x ys =
    ap (λ p. list_any p ys) (λ i y. (sym (same_room-cmp y x) ∙ (eq_by_cmp_equiv nat_list_cmp_total).symm y x) i)
    ∙ sym (contains-from_list nat_list_cmp_total ys x)

pub len-from_cons : (x : List ℕ) (ys : List (List ℕ)) (b : Bool) → list_any (λ y. same_room y x) ys ≡ b
    → set.len (set.from_list {R = room_cmp} (x ∷ ys)) ≡ cond b (set.len (set.from_list {R = room_cmp} ys)) (set.len (set.from_list {R = room_cmp} ys) + 1)
len-from_cons x ys b is =
    len-insert nat_list_cmp_total (set.from_list {R = room_cmp} ys) x
    ∙ ap (λ b. cond b (set.len (set.from_list {R = room_cmp} ys)) (set.len (set.from_list {R = room_cmp} ys) + 1)) (sym (named_among x ys) ∙ is)

pub len-from_list : (xs : List (List ℕ)) → set.len (set.from_list {R = room_cmp} xs) ≤ length xs
len-from_list [] = let none = len-empty room_cmp in omega (arith, none)
len-from_list (x ∷ xs) =
    let count = len-from_cons x xs (list_any (λ y. same_room y x) xs) refl in
    let rest = len-from_list xs in
    let step = at_most_one (list_any (λ y. same_room y x) xs) (set.len (set.from_list {R = room_cmp} xs)) in
    omega (arith, count, rest, step)
  where
    at_most_one : (b : Bool) (n : ℕ) → cond b n (n + 1) ≤ n + 1
    at_most_one true n = omega arith
    at_most_one false n = omega arith
