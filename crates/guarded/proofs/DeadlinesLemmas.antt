-- Whoever is due is listed.
use Rattle.std.proofs.Common.{◌≡◌, refl, ap, sym, ◌∙◌, ℕ, zero, suc, Bool, true, false, cond, List, [], ◌∷◌, map, arith, Option, Some, None}
use Rattle.std.specs.Prelude.{Any, filter, unwrap_or}
use Rattle.guarded.specs.declared.deadlines.Watched.{Watched}
use Rattle.guarded.specs.declared.deadlines.Due.{Due}
use Rattle.guarded.specs.Deadlines.{is_room, known, is_due, due_of, due_at, IsOf}

here : {X : Type 0} (P : X → Type 0) (x : X) (xs : List X) → P x → Any P (x ∷ xs)
here P x xs holds = (zero, x, omega arith, refl, holds)

there : {X : Type 0} (P : X → Type 0) (x : X) (xs : List X) → Any P xs → Any P (x ∷ xs)
there P x xs (k, y, less, at, holds) = (suc k, y, omega (arith, less), at, holds)

first : (P : Due → Type 0) (passes : Bool) (e : List ℕ × Watched) (es : List (List ℕ × Watched)) → passes ≡ true → P (due_of e) → Any P (map due_of (cond passes (e ∷ es) es))
first P true e es is holds = here P (due_of e) (map due_of es) holds
first P false e es is holds = absurd (cc is)

later : (P : Due → Type 0) (passes : Bool) (e : List ℕ × Watched) (es : List (List ℕ × Watched)) → Any P (map due_of es) → Any P (map due_of (cond passes (e ∷ es) es))
later P true e es any = there P (due_of e) (map due_of es) any
later P false e es any = any

pub due-listed : (sockets : List (List ℕ × Watched)) (room : List ℕ) (watched : Watched) (seconds : ℕ) → known sockets room ≡ Some watched → is_due seconds watched ≡ true → Any (IsOf room watched) (due_at seconds sockets)
due-listed [] room watched seconds is due = absurd (cc is)
due-listed (e ∷ es) room watched seconds is due = on (is_room room e.0) refl is (λ found. due-listed es room watched seconds found due)
  where
    rest : List (List ℕ × Watched)
    rest = filter (λ (s : List ℕ × Watched). is_due seconds s.1) es

    on : (same : Bool) → is_room room e.0 ≡ same → cond same (Some e.1) (known es room) ≡ Some watched → (known es room ≡ Some watched → Any (IsOf room watched) (due_at seconds es)) → Any (IsOf room watched) (due_at seconds (e ∷ es))
    on true at found others =
        let its : e.1 ≡ watched = ap (λ (o : Option Watched). unwrap_or o e.1) found in
        first (IsOf room watched) (is_due seconds e.1) e rest (ap (is_due seconds) its ∙ due) (at, ap (λ (w : Watched). w.space) its)
    on false at found others = later (IsOf room watched) (is_due seconds e.1) e rest (others found)
