-- Who was told stays told.
use Rattle.std.proofs.Common.{◌≡◌, ◌∙◌, true, false, Bool, cond, Option, None, Some, nat_eq, ℕ, ◌+◌, ◌<◌, ◌⊎◌, inl, inr, List, [], slice_index_or, sym, subst, refl, arith}
use Rattle.std.proofs.lemmas.Bool.{cases_eq}
use Rattle.loop_rules.specs.declared.looks.LookState.{LookState}
use Rattle.loop_rules.specs.declared.roster.Roster.{Roster}
use Rattle.loop_rules.specs.declared.roster.Notes.{Notes}
use Rattle.loop_rules.specs.Rotas.{Waiting, called_at, look_of, put_for_at}
use Rattle.loop_rules.specs.Looks.{takes_yet}
use Rattle.loop_rules.specs.Ids.{loop_of}
use Rattle.loop_rules.specs.Notes.{is_noted}
use Rattle.loop_rules.specs.Rosters.{AreTold, IsTold, IsToldBy, IsWoken, Keeps, Remembers}
use Rattle.loop_rules.specs.Takers.{taker_of}
use Rattle.loop_rules.proofs.RotaLemmas.{called_keeps, called_long, called_takes, itself}

-- a call keeps who will look
pub called_kept : (w : Waiting) (key : ℕ) → Keeps w.looks (called_at key w).looks
called_kept w key = record {
  long = called_long w key;
  kept = λ k was. called_keeps w key k was;
  takes = λ k was. called_takes w key k was;
}

put-kept : (b : Bool) (w : Waiting) (key : ℕ) → Keeps w.looks (cond b w (called_at key w)).looks
put-kept true w key = record { long = refl; kept = λ k was. was; takes = λ k was. was }
put-kept false w key = called_kept w key

-- so does what is put for a client
pub put_kept : (w : Waiting) (key : ℕ) → Keeps w.looks (put_for_at key w).looks
put_kept w key = put-kept (takes_yet (look_of w.looks key)) w key

list-at : (own loops : ℕ) (lists : List (List ℕ)) (i k : ℕ) (r : Roster) (n : Notes)
    → ((k : ℕ) → k < i → AreTold own loops (slice_index_or lists k []) r n) → AreTold own loops (slice_index_or lists i []) r n
    → k < i + 1 → (k ≡ i) ⊎ (k ≡ i → ⊥) → AreTold own loops (slice_index_or lists k []) r n
list-at own loops lists i k r n before here below (inl now) =
    subst (λ x. AreTold own loops (slice_index_or lists x []) r n) (sym now) here
list-at own loops lists i k r n before here below (inr other) = before k (omega (arith, other))

-- one more list is told
pub list_more : (own loops : ℕ) (lists : List (List ℕ)) (i : ℕ) (r : Roster) (n : Notes)
    → ((k : ℕ) → k < i → AreTold own loops (slice_index_or lists k []) r n) → AreTold own loops (slice_index_or lists i []) r n
    → (k : ℕ) → k < i + 1 → AreTold own loops (slice_index_or lists k []) r n
list_more own loops lists i r n before here k below = list-at own loops lists i k r n before here below (cases_eq k i)

-- nothing is forgotten where one more was woken
pub woken_more : (p q r : Roster) (m n : Notes) → Remembers p q m n → r.takers ≡ q.takers → Keeps q.rota.looks r.rota.looks → Remembers p r m n
woken_more p q r m n before same keeps = record {
  takers = same ∙ before.takers;
  looks = record {
    long = keeps.long ∙ before.looks.long;
    kept = λ k is. keeps.kept k (before.looks.kept k is);
    takes = λ k is. keeps.takes k (before.looks.takes k is);
  };
  noted = before.noted;
}

-- nor where one more was noted
pub noted_more : (p q : Roster) (l m n : Notes) → Remembers p q l m
    → ((k c : ℕ) → is_noted k c m ≡ true → is_noted k c n ≡ true) → Remembers p q l n
noted_more p q l m n before keeps = record {
  takers = before.takers;
  looks = before.looks;
  noted = λ k c is. keeps k c (before.noted k c is);
}

-- nor over two parts of the way
pub remembered_on : (p q r : Roster) (l m n : Notes) → Remembers p q l m → Remembers q r m n → Remembers p r l n
remembered_on p q r l m n before after =
    noted_more p r l m n (woken_more p q r l m before after.takers after.looks) after.noted

woken-on : (t : Option ℕ) (all : Bool) (old new : List LookState) → Keeps old new → IsWoken t all old → IsWoken t all new
woken-on (Some key) all old new keeps is = λ below. keeps.takes key (is (omega (arith, below, keeps.long)))
woken-on None all old new keeps is = λ so key below. keeps.kept key (is so key (omega (arith, below, keeps.long)))

told-by : (b : Bool) (owner client : ℕ) (q r : Roster) (n : Notes) → r.takers ≡ q.takers → Keeps q.rota.looks r.rota.looks
    → IsToldBy b owner client q n → IsToldBy b owner client r n
told-by true owner client q r n same keeps is =
    woken-on (taker_of r.takers client) r.takers.unlisted q.rota.looks r.rota.looks keeps
    (subst (λ t. IsWoken (taker_of t client) t.unlisted q.rota.looks) (sym same) is)
told-by false owner client q r n same keeps is = is

-- who was told stays told where one more was woken
pub told_on : (own loops client : ℕ) (q r : Roster) (n : Notes) → r.takers ≡ q.takers → Keeps q.rota.looks r.rota.looks
    → IsTold own loops client q n → IsTold own loops client r n
told_on own loops client q r n same keeps is =
    told-by (nat_eq (loop_of client loops) own) (loop_of client loops) client q r n same keeps is

-- a client of this loop is told where it was woken
pub told_here : (own loops client : ℕ) (r : Roster) (n : Notes) → loop_of client loops ≡ own
    → IsWoken (taker_of r.takers client) r.takers.unlisted r.rota.looks → IsTold own loops client r n
told_here own loops client r n is woken =
    let here : nat_eq (loop_of client loops) own ≡ true = rw is (itself own) in
    subst (λ b. IsToldBy b (loop_of client loops) client r n) (sym here) woken

told-at : (own loops : ℕ) (clients : List ℕ) (i k : ℕ) (r : Roster) (n : Notes)
    → ((k : ℕ) → k < i → IsTold own loops (slice_index_or clients k 0) r n) → IsTold own loops (slice_index_or clients i 0) r n
    → k < i + 1 → (k ≡ i) ⊎ (k ≡ i → ⊥) → IsTold own loops (slice_index_or clients k 0) r n
told-at own loops clients i k r n before here below (inl now) =
    subst (λ x. IsTold own loops (slice_index_or clients x 0) r n) (sym now) here
told-at own loops clients i k r n before here below (inr other) = before k (omega (arith, other))

-- one more client is told
pub told_more : (own loops : ℕ) (clients : List ℕ) (i : ℕ) (r : Roster) (n : Notes)
    → ((k : ℕ) → k < i → IsTold own loops (slice_index_or clients k 0) r n) → IsTold own loops (slice_index_or clients i 0) r n
    → (k : ℕ) → k < i + 1 → IsTold own loops (slice_index_or clients k 0) r n
told_more own loops clients i r n before here k below = told-at own loops clients i k r n before here below (cases_eq k i)
