-- Sets that are not empty, and one link more or less.
use Rattle.std.proofs.Common.{◌≡◌, ◌≢◌, Bool, true, false, ◌&&◌, ◌||◌, not, List, [], ◌∷◌, ◌++◌, is_some, IfSome, refl, sym, ap, ◌∙◌, Ordering, is_eq, true≢false, BTreeMap, BTreeSet}
use Rattle.std.specs.Prelude.{Option, None, Some}
use Rattle.std.specs.Ordering.{eq_by_cmp}
use Rattle.std.specs.Cmp.{IsTotalOrder, eq_by_cmp_equiv, tied_itself}
use Rattle.std.specs.List.{list_any}
use Rattle.std.specs.Map.{lookup}
use Rattle.std.specs.BTreeMap as tree
use Rattle.std.proofs.lemmas.List.Folds.{list_any-append}
use Rattle.room_maps.specs.Links.{is_in_some}

module _ {V : Type 0} (S : V → V → Ordering) where
  pub linked_key : (o : Option (BTreeSet V)) (v : V) → is_in_some S o v ≡ true → is_some o ≡ true
  linked_key None v e = absurd (true≢false (sym e))
  linked_key (Some set) v e = refl

  pub filled_by : (o : Option (BTreeSet V)) (v : V) → (is_some o ≡ true → is_in_some S o v ≡ true) → IfSome o (λ set. set.keys ≢ [])
  filled_by None v h = tt
  filled_by (Some set) v h = λ e. true≢false (sym (h refl) ∙ ap (list_any (eq_by_cmp S v)) e)

  pub some_link : IsTotalOrder S → (o : Option (BTreeSet V)) → IfSome o (λ set. set.keys ≢ []) → is_some o ≡ true → (v : V) × (is_in_some S o v ≡ true)
  some_link t None ne e = absurd (true≢false (sym e))
  some_link t (Some set) ne e = first set.keys ne
    where
      first : (ks : List V) → (ks ≢ []) → (v : V) × (list_any (eq_by_cmp S v) ks ≡ true)
      first [] ne = absurd (ne refl)
      first (k ∷ ks) ne = (k, ap (λ b. b || list_any (eq_by_cmp S k) ks) (ap is_eq (tied_itself t k)))

  -- sets that are not empty stand at the same keys if their values are the same
  pub keys_of_links : IsTotalOrder S → (o p : Option (BTreeSet V)) → IfSome o (λ set. set.keys ≢ []) → IfSome p (λ set. set.keys ≢ []) → ((v : V) → is_in_some S p v ≡ is_in_some S o v) → is_some p ≡ is_some o
  keys_of_links t None None ne nf same = refl
  keys_of_links t None (Some p) ne nf same = let l = some_link t (Some p) nf refl in absurd (true≢false (sym l.1 ∙ same l.0))
  keys_of_links t (Some o) None ne nf same = let l = some_link t (Some o) ne refl in absurd (true≢false (sym l.1 ∙ sym (same l.0)))
  keys_of_links t (Some o) (Some p) ne nf same = refl

module _ {K V : Type 0} (R : K → K → Ordering) where
  pub none_linked : (m : BTreeMap K (BTreeSet V)) → m.entries ≡ [] → (k : K) → tree.get R m k ≡ None
  none_linked m e k = ap (lookup (λ x. eq_by_cmp R k x)) e

-- ---- many links less

unlink_bool : (e y w o : Bool) → (not (e && w) && (not (y && w) && o)) ≡ (not ((y || (e || false)) && w) && o)
unlink_bool true true true o = refl
unlink_bool true true false o = refl
unlink_bool true false true o = refl
unlink_bool true false false o = refl
unlink_bool false true true o = refl
unlink_bool false true false o = refl
unlink_bool false false true o = refl
unlink_bool false false false o = refl

pub unlink_more : {K : Type 0} {R : K → K → Ordering} (o : IsTotalOrder R) (ys : List K) (y k : K) (w was : Bool)
    → (not (eq_by_cmp R y k && w) && (not (list_any (eq_by_cmp R k) ys && w) && was)) ≡ (not (list_any (eq_by_cmp R k) (ys ++ y ∷ []) && w) && was)
unlink_more {R = R} o ys y k w was =
    ap (λ e. not (e && w) && (not (list_any (eq_by_cmp R k) ys && w) && was)) ((eq_by_cmp_equiv o).symm y k)
    ∙ unlink_bool (eq_by_cmp R k y) (list_any (eq_by_cmp R k) ys) w was
    ∙ ap (λ b. not (b && w) && was) (sym (list_any-append (eq_by_cmp R k) ys (y ∷ [])))
