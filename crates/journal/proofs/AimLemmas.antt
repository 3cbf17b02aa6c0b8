-- For whom a broadcast that names no room is.
use Rattle.std.proofs.Common.{◌≡◌, ℕ, ◌==◌, Bool, true, false, ◌&&◌, not, List, [], ◌∷◌, length, filter, refl, sym, ◌∙◌, ap, arith, Option, None, Some, Result, Ok, Err, nat_cmp}
use Rattle.std.specs.Prelude.{IfOk, is_some}
use Rattle.std.specs.List.{list_any}
use Rattle.std.proofs.lemmas.Bool.Decides.{nat_tests}
use Rattle.std.proofs.lemmas.List.Kept.{IsStrictlySortedBy-filter}
use Rattle.terms.specs.Listing.{ListsRising}
use Rattle.room_maps.specs.Membership.{is_socket, is_in}
use Rattle.room_maps.specs.Addressed.{is_addressed}
use Rattle.journal.specs.declared.socket.Socket.{Socket}
use Rattle.journal.specs.declared.step.Step.{Step}
use Rattle.journal.specs.Plain.{PlainBase, Limits}
use Rattle.journal.specs.Membership.{sockets, sid_of, socket_with, is_in_space, rooms}
use Rattle.journal.specs.Legal.{IsSound}
use Rattle.journal.specs.Casting.{is_here, ListsInside}
use Rattle.journal.proofs.CastLemmas.{any-at}
use Rattle.journal.proofs.MembersLemmas.{contains-filter}

pub if_ok : {A E : Type 0} {P Q : A → Type 0} (r : Result A E) → ((x : A) → P x → Q x) → IfOk r P → IfOk r Q
if_ok (Ok x) f h = f x h
if_ok (Err e) f h = tt

pub none_named : {A : Type 0} (xs : List A) → (length xs == 0) ≡ true → xs ≡ []
none_named [] e = refl
none_named (x ∷ xs) e = absurd (grind (arith, nat_tests))

-- a rising list keeps what passes
pub kept : (f p : ℕ → Bool) (sids : List ℕ) → ListsRising nat_cmp f sids → ListsRising nat_cmp (λ s. f s && p s) (filter p sids)
kept f p sids lists = record {
  rises = IsStrictlySortedBy-filter nat_cmp p sids lists.rises;
  exactly = λ s. contains-filter s p sids ∙ rw (lists.exactly s) (turned (p s) (f s));
}
  where
    turned : (a b : Bool) → (a && b) ≡ (b && a)
    turned true true = refl
    turned true false = refl
    turned false true = refl
    turned false false = refl

module _ (base : PlainBase) (limits : Limits) (journal : List Step) (sound : IsSound base limits journal) (seat : ℕ → Option Socket) (seats : (s : ℕ) → seat s ≡ socket_with sid_of base journal s) (space : ℕ) where
  here-is : (s : ℕ) → is_in_space base journal space s ≡ is_here space (seat s)
  unfolding socket_with
  here-is s = any-at (sockets base journal) sound.sockets_apart s (λ (k : Socket). k.space == space) ∙ sym (ap (is_here space) (seats s))

  some-here : (o : Option Socket) → is_here space o ≡ true → is_some o ≡ true
  some-here None e = e
  some-here (Some k) e = refl

  -- the sockets of the namespace but those in an excepted room are those for whom a broadcast is that names no room
  pub everybody : (excepted : List (List ℕ)) (sids : List ℕ) → ListsRising nat_cmp (λ s. is_here space (seat s) && not (list_any (is_in (rooms base journal) s) excepted)) sids
      → ListsInside (is_in_space base journal space) (is_addressed (rooms base journal) [] excepted) sids
  everybody excepted sids lists = record {
    rises = lists.rises;
    exactly = λ s inside.
        let here : is_here space (seat s) ≡ true = sym (here-is s) ∙ inside in
        let known : is_socket (rooms base journal) s ≡ true = sound.seated s ∙ ap is_some (sym (seats s)) ∙ some-here (seat s) here in
        lists.exactly s ∙ rw (here, known) refl;
  }

-- what rises and holds what passes holds of those inside what passes
pub of-those-inside : (inside test : ℕ → Bool) (sids : List ℕ) → ListsRising nat_cmp test sids → ListsInside inside test sids
of-those-inside inside test sids lists = record { rises = lists.rises; exactly = λ s e. lists.exactly s }
