-- The pairs of all entries of a map of sockets: they rise, and are just those that the map holds.
use Rattle.std.proofs.Common.{◌≡◌, ℕ, Bool, true, false, ◌&&◌, ◌||◌, if◌then◌else◌, List, [], ◌∷◌, ◌++◌, map, is_some, refl, sym, ap, ◌∙◌, subst, Ordering, Less, nat_cmp, BTreeSet, IfOk}
use Rattle.std.specs.Prelude.{Option, None, Some, Result, Ok, Err}
use Rattle.std.specs.Ordering.{eq_by_cmp, ordering_then}
use Rattle.std.specs.Cmp.{nat_cmp_total, tied_itself}
use Rattle.std.specs.List.{flat_map, list_any, AllByRecursion}
use Rattle.std.specs.List.Sorted.{IsStrictlySortedBy}
use Rattle.std.specs.Map.{keys_of, lookup}
use Rattle.std.specs.BTreeMap as tree
use Rattle.std.proofs.lemmas.List.Folds.{list_any-append}
use Rattle.std.proofs.lemmas.Map.Made.{is_some-lookup}
use Rattle.terms.specs.Listing.{ListsRising}
use Rattle.terms.specs.Room.{room_cmp}
use Rattle.room_maps.specs.Links.{is_in_some}
use Rattle.room_maps.specs.Membership.{pair_cmp, is_in}
use Rattle.room_maps.specs.Mirror.{SocketMap, entry_pairs, HasRisingRooms, sets_of}
use Rattle.room_maps.proofs.OrderLemmas.{then-eq, nat_tied, none_equal, list_any-map, list_any-and}
use Rattle.room_maps.proofs.MirrorLemmas.{contains-pairs_of}

all-append : {A : Type 0} (P : A → Type 0) (xs ys : List A) → AllByRecursion P xs → AllByRecursion P ys → AllByRecursion P (xs ++ ys)
all-append P [] ys a b = b
all-append P (x ∷ xs) ys a b = (a.0, all-append P xs ys a.1 b)

-- one rising list after another, all of whose elements are greater
sorted-append : {A : Type 0} (R : A → A → Ordering) (xs ys : List A) → IsStrictlySortedBy R xs → IsStrictlySortedBy R ys → AllByRecursion (λ x. AllByRecursion (λ y. R x y ≡ Less) ys) xs → IsStrictlySortedBy R (xs ++ ys)
unfolding IsStrictlySortedBy
sorted-append R [] ys a b h = b
sorted-append R (x ∷ xs) ys a b h = (all-append (λ y. R x y ≡ Less) xs ys a.0 h.0, sorted-append R xs ys a.1 b h.1)

-- ---- they rise

row_above : (s : ℕ) (r : List ℕ) (rooms : List (List ℕ)) → AllByRecursion (λ q. room_cmp r q ≡ Less) rooms → AllByRecursion (λ p. pair_cmp (s, r) p ≡ Less) (map (λ q. (s, q)) rooms)
row_above s r [] h = tt
row_above s r (q ∷ rooms) h = (ap (λ o. ordering_then o (room_cmp r q)) (tied_itself nat_cmp_total s) ∙ h.0, row_above s r rooms h.1)

row_rises : (s : ℕ) (rooms : List (List ℕ)) → IsStrictlySortedBy room_cmp rooms → IsStrictlySortedBy pair_cmp (map (λ q. (s, q)) rooms)
unfolding IsStrictlySortedBy
row_rises s [] h = tt
row_rises s (q ∷ rooms) h = (row_above s q rooms h.0, row_rises s rooms h.1)

later_row : (s t : ℕ) (r : List ℕ) (rooms : List (List ℕ)) → nat_cmp s t ≡ Less → AllByRecursion (λ p. pair_cmp (s, r) p ≡ Less) (map (λ q. (t, q)) rooms)
later_row s t r [] h = tt
later_row s t r (q ∷ rooms) h = (ap (λ o. ordering_then o (room_cmp r q)) h, later_row s t r rooms h)

later_rows : (s : ℕ) (r : List ℕ) (es : List (ℕ × BTreeSet (List ℕ))) → AllByRecursion (λ t. nat_cmp s t ≡ Less) (keys_of es) → AllByRecursion (λ p. pair_cmp (s, r) p ≡ Less) (flat_map entry_pairs es)
later_rows s r [] h = tt
later_rows s r (e ∷ es) h = all-append (λ p. pair_cmp (s, r) p ≡ Less) (entry_pairs e) (flat_map entry_pairs es) (later_row s e.0 r e.1.keys h.0) (later_rows s r es h.1)

row_before : (s : ℕ) (rooms : List (List ℕ)) (es : List (ℕ × BTreeSet (List ℕ))) → AllByRecursion (λ t. nat_cmp s t ≡ Less) (keys_of es)
    → AllByRecursion (λ x. AllByRecursion (λ p. pair_cmp x p ≡ Less) (flat_map entry_pairs es)) (map (λ q. (s, q)) rooms)
row_before s [] es h = tt
row_before s (q ∷ rooms) es h = (later_rows s q es h, row_before s rooms es h)

pairs_rise : (es : List (ℕ × BTreeSet (List ℕ))) → IsStrictlySortedBy nat_cmp (keys_of es) → AllByRecursion HasRisingRooms es → IsStrictlySortedBy pair_cmp (flat_map entry_pairs es)
unfolding IsStrictlySortedBy
pairs_rise [] h all = tt
pairs_rise (e ∷ es) h all = sorted-append pair_cmp (entry_pairs e) (flat_map entry_pairs es) (row_rises e.0 e.1.keys all.0) (pairs_rise es h.1 all.1) (row_before e.0 e.1.keys es h.0)

-- ---- they are those that the map holds

module _ (s : ℕ) (r : List ℕ) where
  in_row : (t : ℕ) (rooms : List (List ℕ)) → list_any (eq_by_cmp pair_cmp (s, r)) (map (λ q. (t, q)) rooms) ≡ (eq_by_cmp nat_cmp s t && list_any (eq_by_cmp room_cmp r) rooms)
  in_row t rooms =
      list_any-map (eq_by_cmp pair_cmp (s, r)) (λ q. (t, q)) rooms
      ∙ ap (λ p. list_any p rooms) (λ i q. then-eq (nat_cmp s t) (room_cmp r q) i)
      ∙ list_any-and (eq_by_cmp nat_cmp s t) (eq_by_cmp room_cmp r) rooms

  no_key : (es : List (ℕ × BTreeSet (List ℕ))) → AllByRecursion (λ t. nat_cmp s t ≡ Less) (keys_of es) → is_in_some room_cmp (lookup (eq_by_cmp nat_cmp s) es) r ≡ false
  no_key es h = on (lookup (eq_by_cmp nat_cmp s) es) (is_some-lookup (eq_by_cmp nat_cmp s) es ∙ none_equal nat_cmp s (keys_of es) h)
    where
      on : (o : Option (BTreeSet (List ℕ))) → is_some o ≡ false → is_in_some room_cmp o r ≡ false
      on None e = refl
      on (Some x) e = absurd (cc e)

  pairs_held : (es : List (ℕ × BTreeSet (List ℕ))) → IsStrictlySortedBy nat_cmp (keys_of es) → list_any (eq_by_cmp pair_cmp (s, r)) (flat_map entry_pairs es) ≡ is_in_some room_cmp (lookup (eq_by_cmp nat_cmp s) es) r
  unfolding IsStrictlySortedBy
  pairs_held [] h = refl
  pairs_held (e ∷ es) h =
      list_any-append (eq_by_cmp pair_cmp (s, r)) (entry_pairs e) (flat_map entry_pairs es)
      ∙ ap (λ b. b || list_any (eq_by_cmp pair_cmp (s, r)) (flat_map entry_pairs es)) (in_row e.0 e.1.keys)
      ∙ ap (λ b. (eq_by_cmp nat_cmp s e.0 && list_any (eq_by_cmp room_cmp r) e.1.keys) || b) (pairs_held es h.1)
      ∙ on (eq_by_cmp nat_cmp s e.0) refl
    where
      or-false : (b : Bool) → (b || false) ≡ b
      or-false true = refl
      or-false false = refl

      on : (b : Bool) → eq_by_cmp nat_cmp s e.0 ≡ b
          → ((b && list_any (eq_by_cmp room_cmp r) e.1.keys) || is_in_some room_cmp (lookup (eq_by_cmp nat_cmp s) es) r)
          ≡ is_in_some room_cmp (if b then Some e.1 else lookup (eq_by_cmp nat_cmp s) es) r
      on true is =
          ap (λ b. list_any (eq_by_cmp room_cmp r) e.1.keys || b) (no_key es (subst (λ z. AllByRecursion (λ t. nat_cmp z t ≡ Less) (keys_of es)) (sym (nat_tied s e.0 is)) h.0))
          ∙ or-false (list_any (eq_by_cmp room_cmp r) e.1.keys)
      on false is = refl

pub pairs_listed : {X E : Type 0} (items : X → List (ℕ × List ℕ)) (a : SocketMap) (result : Result X E) → tree.IsOrdered nat_cmp a
    → IfOk result (λ x. items x ≡ flat_map entry_pairs a.entries) → IfOk result (λ x. AllByRecursion HasRisingRooms a.entries)
    → IfOk result (λ x. ListsRising pair_cmp (λ p. is_in (sets_of a) p.0 p.1) (items x))
pairs_listed items a (Ok x) ordered is rising =
    subst (ListsRising pair_cmp (λ p. is_in (sets_of a) p.0 p.1)) (sym is)
    (record { rises = pairs_rise a.entries ordered rising; exactly = λ p. pairs_held p.0 p.1 a.entries ordered ∙ sym (contains-pairs_of a p.0 p.1) })
pairs_listed items a (Err e) ordered is rising = tt
