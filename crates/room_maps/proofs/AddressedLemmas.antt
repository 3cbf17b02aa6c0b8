-- Lists that rise, and whom a broadcast reaches.
use Rattle.std.proofs.Common.{◌≡◌, ℕ, Bool, true, false, ◌&&◌, ◌||◌, not, cond, List, [], ◌∷◌, map, refl, sym, ap, ◌∙◌, subst, Ordering, Less, Equal, nat_cmp, BTreeSet, IfOk, OnOk, IsPermutation, length, is_some, true≢false, ◌==◌, arith}
use Rattle.std.proofs.lemmas.Bool.Decides.{nat_tests}
use Rattle.std.specs.Prelude.{Option, None, Some, Result, Ok, Err}
use Rattle.std.specs.Ordering.{eq_by_cmp}
use Rattle.std.specs.List.{list_any, filter, dedup, dedup_from}
use Rattle.std.specs.List.Sorted.{IsStrictlySortedBy, IsSorted}
use Rattle.std.specs.Cmp.{nat_cmp_total}
use Rattle.std.proofs.lemmas.List.Kept.{IsStrictlySortedBy-dedup}
use Rattle.std.proofs.lemmas.List.Sorted.{list_any-IsPermutation}
use Rattle.terms.specs.Listing.{ListsRising}
use Rattle.std.specs.List.{AllByRecursion}
use Rattle.std.specs.Map.{keys_of, lookup}
use Rattle.std.specs.Cmp.{IsTotalOrder, Equal-is}
use Rattle.std.specs.BTreeMap as tree
use Rattle.std.specs.BTreeSet as sorted
use Rattle.terms.specs.Room.{room_cmp}
use Rattle.room_maps.specs.Links.{is_in_some}
use Rattle.room_maps.specs.Membership.{is_socket, is_in}
use Rattle.room_maps.specs.Mirror.{SocketMap, RoomMap, Mirror, is_member_of_one, pairs_of, sets_of}
use Rattle.terms.specs.Audience.{names_no_room, is_for}
use Rattle.room_maps.specs.Addressed.{is_addressed}
use Rattle.room_maps.proofs.MirrorLemmas.{contains-sockets_of, contains-pairs_of, known_of}
use Rattle.room_maps.proofs.BooleanLemmas.{and_comm}
use Rattle.room_maps.proofs.OrderLemmas.{list_any-filter, list_any-at, nat_tied, none_equal}

pub listed : {K X E : Type 0} (R : K → K → Ordering) (test : K → Bool) (items : X → List K) (ks : List K) (r : Result X E)
    → IfOk r (λ x. items x ≡ ks) → IsStrictlySortedBy R ks → ((k : K) → list_any (eq_by_cmp R k) ks ≡ test k) → IfOk r (λ x. ListsRising R test (items x))
listed R test items ks (Ok x) e rises exactly = subst (λ ks. ListsRising R test ks) (sym e) (record { rises = rises; exactly = exactly })
listed R test items ks (Err x) e rises exactly = tt

pub on_ok : {T E : Type 0} {P Q : Type 0} (r : Result T E) → (P → Q) → OnOk r P → OnOk r Q
on_ok (Ok x) f h = f h
on_ok (Err e) f h = tt

-- a filtered list holds what the list holds and the test lets through
pub contains-filter : (s : ℕ) (test : ℕ → Bool) (xs : List ℕ) → list_any (eq_by_cmp nat_cmp s) (filter test xs) ≡ (list_any (eq_by_cmp nat_cmp s) xs && test s)
contains-filter s test xs =
    list_any-filter (eq_by_cmp nat_cmp s) test xs
    ∙ ap (λ p. list_any p xs) (λ i x. and_comm (test x) (eq_by_cmp nat_cmp s x) i)
    ∙ list_any-at (eq_by_cmp nat_cmp s) test (test s) (λ x e. ap test (sym (nat_tied s x e))) xs

-- a list holds the same without what stands in it twice
module _ {K : Type 0} (same : K → K → Bool) (p : K → Bool) (alike : (x y : K) → same x y ≡ true → p x ≡ p y) where
  any_dedup_from : (k : K) (xs : List K) → list_any p (dedup_from same k xs) ≡ (p k || list_any p xs)
  any_dedup_from k [] = refl
  any_dedup_from k (x ∷ xs) =
      elim (same x k) as (λ b. same x k ≡ b → list_any p (cond b (dedup_from same k xs) (k ∷ dedup_from same x xs)) ≡ (p k || (p x || list_any p xs))) [
        | true ↦ λ e. any_dedup_from k xs ∙ absorb (p k) (p x) (list_any p xs) (alike x k e)
        | false ↦ λ e. ap (λ b. p k || b) (any_dedup_from x xs)
      ] refl
    where
      absorb : (b c d : Bool) → c ≡ b → (b || d) ≡ (b || (c || d))
      absorb true c d e = refl
      absorb false c d e = ap (λ c. c || d) (sym e)

  pub list_any-dedup : (xs : List K) → list_any p (dedup same xs) ≡ list_any p xs
  list_any-dedup [] = refl
  list_any-dedup (x ∷ xs) = any_dedup_from x xs

-- a list that is sorted and rid of what stands in it twice rises, and holds what it held
pub deduplicated : (same : ℕ → ℕ → Bool) (ties : (x y : ℕ) → same x y ≡ eq_by_cmp nat_cmp x y) (test : ℕ → Bool) (xs ys zs : List ℕ)
    → ((s : ℕ) → list_any (eq_by_cmp nat_cmp s) xs ≡ test s) → IsPermutation xs ys → IsSorted nat_cmp ys → zs ≡ dedup same ys → ListsRising nat_cmp test zs
deduplicated same ties test xs ys zs exactly moved sorted is =
    subst (λ zs. ListsRising nat_cmp test zs) (sym is)
    (record {
      rises = IsStrictlySortedBy-dedup nat_cmp_total ties ys sorted;
      exactly = λ s.
          list_any-dedup same (eq_by_cmp nat_cmp s) (λ x y e. ap (eq_by_cmp nat_cmp s) (nat_tied x y (sym (ties x y) ∙ e))) ys
          ∙ sym (list_any-IsPermutation (eq_by_cmp nat_cmp s) xs ys moved)
          ∙ exactly s;
    })

pub relisted : {K X E : Type 0} (R : K → K → Ordering) (f g : K → Bool) (items : X → List K) (r : Result X E) → ((k : K) → f k ≡ g k) → IfOk r (λ x. ListsRising R f (items x)) → IfOk r (λ x. ListsRising R g (items x))
relisted R f g items (Ok x) same h = subst (λ test. ListsRising R test (items x)) (λ i k. same k i) h
relisted R f g items (Err e) same h = tt

pub room_named : (rooms : List (List ℕ)) → (length rooms == 0) ≡ names_no_room rooms
room_named [] = refl
room_named (r ∷ rooms) = grind (arith, nat_tests)

-- ---- the entries that pass a test of their values, in a list whose keys rise

module _ {K X : Type 0} {R : K → K → Ordering} (o : IsTotalOrder R) (f : X → Bool) where
  abbrev pub passes_at : Option X → Bool
  passes_at None = false
  passes_at (Some x) = f x

  abbrev pub kept_keys : List (K × X) → List K
  kept_keys es = map (λ e. e.0) (filter (λ e. f e.1) es)

  abbrev kept_after : K × X → Bool → List (K × X) → List K
  kept_after e b es = map (λ e. e.0) (cond b (e ∷ filter (λ e. f e.1) es) (filter (λ e. f e.1) es))

  all_kept : (P : K → Type 0) (es : List (K × X)) → AllByRecursion P (keys_of es) → AllByRecursion P (kept_keys es)
  all_kept P [] h = tt
  all_kept P (e ∷ es) h = elim (f e.1) as (λ b. AllByRecursion P (kept_after e b es)) [ true ↦ (h.0, all_kept P es h.1) | false ↦ all_kept P es h.1 ]

  pub rises_kept : (es : List (K × X)) → IsStrictlySortedBy R (keys_of es) → IsStrictlySortedBy R (kept_keys es)
  unfolding IsStrictlySortedBy
  rises_kept [] h = tt
  rises_kept (e ∷ es) h = elim (f e.1) as (λ b. IsStrictlySortedBy R (kept_after e b es)) [ true ↦ (all_kept (λ y. R e.0 y ≡ Less) es h.0, rises_kept es h.1) | false ↦ rises_kept es h.1 ]

  level : (k q : K) (ks : List K) → R k q ≡ Equal → AllByRecursion (λ y. R q y ≡ Less) ks → AllByRecursion (λ y. R k y ≡ Less) ks
  level k q [] e h = tt
  level k q (x ∷ ks) e h = (o.congr k q x e ∙ h.0, level k q ks e h.1)

  pub contains_kept : (k : K) (es : List (K × X)) → IsStrictlySortedBy R (keys_of es) → list_any (eq_by_cmp R k) (kept_keys es) ≡ passes_at (lookup (eq_by_cmp R k) es)
  unfolding IsStrictlySortedBy
  contains_kept k [] h = refl
  contains_kept k (e ∷ es) h =
      elim (eq_by_cmp R k e.0) as (λ t. eq_by_cmp R k e.0 ≡ t → list_any (eq_by_cmp R k) (kept_after e (f e.1) es) ≡ passes_at (cond t (Some e.1) (lookup (eq_by_cmp R k) es))) [
        | true ↦ λ is. elim (f e.1) as (λ b. list_any (eq_by_cmp R k) (kept_after e b es) ≡ b) [
          | true ↦ ap (λ t. t || list_any (eq_by_cmp R k) (kept_keys es)) is
          | false ↦ none_equal R k (kept_keys es) (all_kept (λ y. R k y ≡ Less) es (level k e.0 (keys_of es) ((Equal-is (R k e.0)).0 is) h.0))
        ]
        | false ↦ λ is. elim (f e.1) as (λ b. list_any (eq_by_cmp R k) (kept_after e b es) ≡ passes_at (lookup (eq_by_cmp R k) es)) [
          | true ↦ ap (λ t. t || list_any (eq_by_cmp R k) (kept_keys es)) is ∙ contains_kept k es h.1
          | false ↦ contains_kept k es h.1
        ]
      ] refl

-- ---- whom a broadcast is for, by the two maps

-- with no room named: all sockets but those in an excepted room
pub addressed_sockets : (a : SocketMap) (rooms excepted : List (List ℕ)) → names_no_room rooms ≡ true → (s : ℕ)
    → passes_at nat_cmp_total (λ inside. not (list_any (sorted.contains room_cmp inside) excepted)) (tree.get nat_cmp a s) ≡ is_addressed (sets_of a) rooms excepted s
addressed_sockets a rooms excepted none s = at (tree.get nat_cmp a s) (contains-sockets_of a s) (contains-pairs_of a s)
  where
    at : (o : Option (BTreeSet (List ℕ))) → is_socket (sets_of a) s ≡ is_some o → ((r : List ℕ) → is_in (sets_of a) s r ≡ is_in_some room_cmp o r)
        → passes_at nat_cmp_total (λ inside. not (list_any (sorted.contains room_cmp inside) excepted)) o ≡ is_addressed (sets_of a) rooms excepted s
    at None known same = ap (λ b. b && is_for rooms excepted (is_in (sets_of a) s)) (sym known)
    at (Some x) known same =
        ap (λ p. not (list_any p excepted)) (λ i r. sym (same r) i)
        ∙ ap (λ b. (b || list_any (is_in (sets_of a) s) rooms) && not (list_any (is_in (sets_of a) s) excepted)) (sym none)
        ∙ ap (λ b. b && is_for rooms excepted (is_in (sets_of a) s)) (sym known)

-- with rooms named: their members but those in an excepted one
pub addressed_members : (a : SocketMap) (b : RoomMap) → Mirror a b (pairs_of a) → (rooms excepted : List (List ℕ)) → names_no_room rooms ≡ false → (s : ℕ)
    → (is_member_of_one b rooms s && not (is_member_of_one b excepted s)) ≡ is_addressed (sets_of a) rooms excepted s
addressed_members a b h rooms excepted some s =
    ap (λ p. list_any p rooms && not (list_any p excepted)) (λ i r. h.rooms_side s r i)
    ∙ with_socket (is_socket (sets_of a) s) (list_any (is_in (sets_of a) s) rooms) (not (list_any (is_in (sets_of a) s) excepted)) (known rooms)
    ∙ ap (λ c. is_socket (sets_of a) s && ((c || list_any (is_in (sets_of a) s) rooms) && not (list_any (is_in (sets_of a) s) excepted))) (sym some)
  where
    with_socket : (k x y : Bool) → (x ≡ true → k ≡ true) → (x && y) ≡ (k && (x && y))
    with_socket true x y e = refl
    with_socket false true y e = absurd (true≢false (sym (e refl)))
    with_socket false false y e = refl

    known : (rooms : List (List ℕ)) → list_any (is_in (sets_of a) s) rooms ≡ true → is_socket (sets_of a) s ≡ true
    known [] e = absurd (true≢false (sym e))
    known (r ∷ rooms) e = either (is_in (sets_of a) s r) (list_any (is_in (sets_of a) s) rooms) e (known_of a s r) (known rooms)
      where
        either : (x y : Bool) → (x || y) ≡ true → (x ≡ true → is_socket (sets_of a) s ≡ true) → (y ≡ true → is_socket (sets_of a) s ≡ true) → is_socket (sets_of a) s ≡ true
        either true y e f g = f refl
        either false y e f g = g e
