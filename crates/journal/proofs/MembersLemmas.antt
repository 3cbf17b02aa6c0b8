-- The members of a room that are in one namespace.
use Rattle.std.proofs.Common.{◌≡◌, ℕ, ◌==◌, Bool, true, false, ◌&&◌, ◌||◌, List, [], ◌∷◌, filter, refl, sym, ◌∙◌, ap, if◌then◌else◌, Option, Result, Ok, Err, subst, nat_cmp}
use Rattle.std.specs.Prelude.{IfOk}
use Rattle.std.specs.List.{list_any}
use Rattle.std.specs.Ordering.{eq_by_cmp}
use Rattle.std.specs.Cmp.{unsigned_tied}
use Rattle.std.proofs.lemmas.Bool.{eqb-true}
use Rattle.std.proofs.lemmas.List.Kept.{IsStrictlySortedBy-filter}
use Rattle.terms.specs.Listing.{ListsRising}
use Rattle.journal.specs.declared.socket.Socket.{Socket}
use Rattle.journal.specs.declared.step.Step.{Step}
use Rattle.journal.specs.Plain.{PlainBase}
use Rattle.journal.specs.Membership.{sockets, sid_of, socket_with, is_in_space}
use Rattle.journal.specs.Legal.{EachTwo, AreApart}
use Rattle.journal.specs.Casting.{is_here}
use Rattle.journal.proofs.CastLemmas.{any-at}

-- a number is in what a filter keeps exactly where it is in the list and passes
pub contains-filter : (s : ℕ) (p : ℕ → Bool) (xs : List ℕ) → list_any (eq_by_cmp nat_cmp s) (filter p xs) ≡ (p s && list_any (eq_by_cmp nat_cmp s) xs)
contains-filter s p [] = none (p s)
  where
    none : (b : Bool) → false ≡ (b && false)
    none true = refl
    none false = refl
contains-filter s p (x ∷ xs) = on (p x) refl (eq_by_cmp nat_cmp s x) refl (contains-filter s p xs)
  where
    same : (b : Bool) → eq_by_cmp nat_cmp s x ≡ true → p x ≡ b → p s ≡ b
    same b t e = ap p (eqb-true s x (sym (unsigned_tied s x) ∙ t)) ∙ e

    on : (b : Bool) → p x ≡ b → (t : Bool) → eq_by_cmp nat_cmp s x ≡ t → list_any (eq_by_cmp nat_cmp s) (filter p xs) ≡ (p s && list_any (eq_by_cmp nat_cmp s) xs)
        → list_any (eq_by_cmp nat_cmp s) (if b then x ∷ filter p xs else filter p xs) ≡ (p s && (t || list_any (eq_by_cmp nat_cmp s) xs))
    on true e true t ih = rw (t, same true t e) refl
    on true e false t ih = rw t ih
    on false e true t ih = ih ∙ rw (same false t e) refl
    on false e false t ih = ih

pub here-members : (base : PlainBase) (journal : List Step) → EachTwo AreApart (sockets base journal) → (seat : ℕ → Option Socket) → ((s : ℕ) → seat s ≡ socket_with sid_of base journal s)
    → (place : ℕ) (test : ℕ → Bool) (sids : List ℕ) → ListsRising nat_cmp test sids
    → ListsRising nat_cmp (λ s. is_in_space base journal place s && test s) (filter (λ s. is_here place (seat s)) sids)
unfolding socket_with
here-members base journal apart seat seats place test sids lists = record {
  rises = IsStrictlySortedBy-filter nat_cmp (λ s. is_here place (seat s)) sids lists.rises;
  exactly = λ s. contains-filter s (λ s. is_here place (seat s)) sids ∙ rw (seats s, lists.exactly s, any-at (sockets base journal) apart s (λ (k : Socket). k.space == place)) refl;
}

pub ok-for : {A B E : Type 0} (f : A → B) (r : Result A E) (x : B) (P : B → Type 0) → IfOk r (λ a. f a ≡ x) → P x → IfOk r (λ a. P (f a))
ok-for f (Ok a) x P e p = subst P (sym e) p
ok-for f (Err e) x P _ p = tt
