-- Who was woken stays so.
use Rattle.std.proofs.Common.{◌≡◌, Bool, Option, None, Some, ℕ, ◌+◌, ◌<◌, ◌⊎◌, inl, inr, List, slice_index_or, sym, subst, arith}
use Rattle.std.proofs.lemmas.Bool.{cases_eq}
use Rattle.loop_rules.specs.declared.looks.LookState.{LookState}
use Rattle.loop_rules.specs.declared.roster.Roster.{Roster}
use Rattle.loop_rules.specs.Rosters.{IsWoken, Keeps}
use Rattle.loop_rules.specs.Takers.{taker_of}
use Rattle.loop_rules.specs.Concerns.{IsWokenFor}

kept-on : (taker : Option ℕ) (unlisted : Bool) (old new : List LookState) → Keeps old new → IsWoken taker unlisted old → IsWoken taker unlisted new
kept-on (Some key) unlisted old new keeps is = λ below. keeps.takes key (is (omega (arith, below, keeps.long)))
kept-on None unlisted old new keeps is = λ so key below. keeps.kept key (is so key (omega (arith, below, keeps.long)))

-- also where another one is woken
pub woken_on : (client : ℕ) (q r : Roster) → r.takers ≡ q.takers → Keeps q.rota.looks r.rota.looks → IsWokenFor client q → IsWokenFor client r
woken_on client q r same keeps is =
    kept-on (taker_of r.takers client) r.takers.unlisted q.rota.looks r.rota.looks keeps
    (subst (λ t. IsWoken (taker_of t client) t.unlisted q.rota.looks) (sym same) is)

woken-at : (clients : List ℕ) (i k : ℕ) (r : Roster) → ((k : ℕ) → k < i → IsWokenFor (slice_index_or clients k 0) r)
    → IsWokenFor (slice_index_or clients i 0) r → k < i + 1 → (k ≡ i) ⊎ (k ≡ i → ⊥) → IsWokenFor (slice_index_or clients k 0) r
woken-at clients i k r before here below (inl now) = subst (λ x. IsWokenFor (slice_index_or clients x 0) r) (sym now) here
woken-at clients i k r before here below (inr other) = before k (omega (arith, other))

-- one more client is woken
pub woken_more : (clients : List ℕ) (i : ℕ) (r : Roster) → ((k : ℕ) → k < i → IsWokenFor (slice_index_or clients k 0) r)
    → IsWokenFor (slice_index_or clients i 0) r → (k : ℕ) → k < i + 1 → IsWokenFor (slice_index_or clients k 0) r
woken_more clients i r before here k below = woken-at clients i k r before here below (cases_eq k i)
