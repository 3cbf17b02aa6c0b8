-- What one more step makes of the totals: what was put was handed out, was discarded or waits.
use Rattle.std.proofs.Common.{◌≡◌, ℕ, ◌+◌, ◌==◌, Bool, true, false, ◌||◌, not, List, [], ◌∷◌, length, map, filter, refl, sym, ap, subst, arith, if◌then◌else◌, nat_eq}
use Rattle.std.specs.List.{sum_by, IsDistinct, AllByRecursion}
use Rattle.std.specs.Set.{is_member}
use Rattle.std.proofs.lemmas.Bool.{eqb-true, eq-eqb}
use Rattle.terms.specs.declared.entry.Entry.{Entry}
use Rattle.journal.specs.declared.step.Step.{Step}
use Rattle.journal.specs.Plain.{PlainBase, Limits}
use Rattle.journal.specs.Journal.{total}
use Rattle.journal.specs.Membership.{opens, closes, open_clients, is_open}
use Rattle.journal.specs.Outboxes.{put, entries_for, begins, taken_by, waiting}
use Rattle.journal.specs.Totals.{placed_by, dropped_by, handed_out_by, discarded_by, commands, placed, dropped, handed_out, discarded, waiting_in_all, IsConserved}
use Rattle.journal.specs.Legal.{IsAllowed, IsLegal}
use Rattle.journal.proofs.SumsLemmas.{sum-same, sum-plus, sum-zero, sum-without}
use Rattle.journal.proofs.MembershipLemmas.{clients-quiet}
use Rattle.journal.proofs.OutboxesLemmas.{flow}

module _ (base : PlainBase) (limits : Limits) (step : Step) (before : List Step) where
  pub commands-step : commands base (step ∷ before) ≡ commands base before + 1
  unfolding commands
  commands-step = omega arith

  pub placed-step : placed base limits (step ∷ before) ≡ placed base limits before + placed_by base limits before step.what
  unfolding placed total
  placed-step = refl

  pub dropped-step : dropped base (step ∷ before) ≡ dropped base before + dropped_by step.what
  unfolding dropped total
  dropped-step = refl

  pub handed_out-step : handed_out base (step ∷ before) ≡ handed_out base before + handed_out_by step.what
  unfolding handed_out total
  handed_out-step = refl

  pub discarded-step : discarded base limits (step ∷ before) ≡ discarded base limits before + discarded_by base limits before step.what
  unfolding discarded total
  discarded-step = refl

  -- a step that keeps the balance
  pub conserved-step : IsConserved base limits before
      → waiting_in_all base limits (step ∷ before) + handed_out_by step.what + discarded_by base limits before step.what ≡ waiting_in_all base limits before + placed_by base limits before step.what
      → IsConserved base limits (step ∷ before)
  conserved-step was now =
      let p = placed-step in let t = handed_out-step in let d = discarded-step in omega (arith, was, now, p, t, d)

-- ---- sums over the open clients

-- none is left of one that was taken out
member-not : (d c : ℕ) (xs : List ℕ) → is_member nat_eq (filter (λ c. not (d == c)) xs) c ≡ true → (d == c) ≡ false
member-not d c [] e = cc
member-not d c (x ∷ xs) e = at (member-not d c xs) (d == x) refl e
  where
    on : (is_member nat_eq (filter (λ c. not (d == c)) xs) c ≡ true → (d == c) ≡ false) → (d == x) ≡ false → (t : Bool) → nat_eq c x ≡ t → (t || is_member nat_eq (filter (λ c. not (d == c)) xs) c) ≡ true → (d == c) ≡ false
    on others k true s e = let same : c ≡ x = eqb-true c x s in subst (λ z. (d == z) ≡ false) (sym same) k
    on others k false s e = others e

    at : (is_member nat_eq (filter (λ c. not (d == c)) xs) c ≡ true → (d == c) ≡ false) → (b : Bool) → (d == x) ≡ b → is_member nat_eq (if not b then x ∷ filter (λ c. not (d == c)) xs else filter (λ c. not (d == c)) xs) c ≡ true → (d == c) ≡ false
    at others true k e = others e
    at others false k e = on others k (nat_eq c x) refl e

pub one_of : (d n : ℕ) (xs : List ℕ) → IsDistinct nat_eq xs → is_member nat_eq xs d ≡ true → sum_by (λ c. if d == c then n else 0) xs ≡ n
one_of d n xs apart there =
    let all = sum-without (λ c. if d == c then n else 0) d xs apart there in
    let rest : sum_by (λ c. if d == c then n else 0) (filter (λ c. not (d == c)) xs) ≡ 0 = sum-zero (λ c. if d == c then n else 0) (filter (λ c. not (d == c)) xs) (λ c e. other c (member-not d c xs e)) in
    let here : (if d == d then n else 0) ≡ n = itself (d == d) (eq-eqb d d refl) in
    omega (arith, all, rest, here)
  where
    itself : (b : Bool) → b ≡ true → (if b then n else 0) ≡ n
    itself true e = refl
    itself false e = cc

    other : (c : ℕ) → (d == c) ≡ false → (if d == c then n else 0) ≡ 0
    other c e = rw e refl

-- each entry is for one of the clients
sum-entries : (xs : List ℕ) → IsDistinct nat_eq xs → (ps : List (ℕ × Entry)) → AllByRecursion (λ (p : ℕ × Entry). is_member nat_eq xs p.0 ≡ true) ps
    → sum_by (λ c. length (entries_for c ps)) xs ≡ length ps
sum-entries xs apart [] h = sum-zero (λ c. length (entries_for c [])) xs (λ c e. refl)
sum-entries xs apart (p ∷ ps) h =
    let rest = sum-entries xs apart ps h.1 in
    let one = one_of p.0 1 xs apart h.0 in
    let both = sum-plus (λ c. if p.0 == c then 1 else 0) (λ c. length (entries_for c ps)) xs in
    let each = sum-same (λ c. length (entries_for c (p ∷ ps))) (λ c. (if p.0 == c then 1 else 0) + length (entries_for c ps)) xs (λ c e. split c (p.0 == c)) in
    omega (arith, rest, one, both, each)
  where
    split : (c : ℕ) (b : Bool) → length (map (λ (q : ℕ × Entry). q.1) (if b then p ∷ filter (λ (q : ℕ × Entry). q.0 == c) ps else filter (λ (q : ℕ × Entry). q.0 == c) ps)) ≡ (if b then 1 else 0) + length (entries_for c ps)
    split c true = omega arith
    split c false = omega arith

module _ (base : PlainBase) (limits : Limits) (step : Step) (before : List Step) (legal : IsLegal base limits before) (allowed : IsAllowed base limits before step step.what) (once : IsDistinct nat_eq (open_clients base before)) where
  -- a step that opens and closes no client
  pub flow-quiet : opens step.what ≡ [] → ((c : ℕ) → closes step.what c ≡ false) → ((c : ℕ) → begins c step.what ≡ false)
      → AllByRecursion (λ (p : ℕ × Entry). is_open base before p.0 ≡ true) (put base limits before step.what)
      → sum_by (λ c. taken_by c step.what) (open_clients base before) ≡ handed_out_by step.what
      → waiting_in_all base limits (step ∷ before) + handed_out_by step.what ≡ waiting_in_all base limits before + placed_by base limits before step.what
  unfolding waiting_in_all is_open
  flow-quiet none stay begun known takes =
      let cs : List ℕ = open_clients base before in
      let after : ℕ → ℕ = λ c. length (waiting base limits (step ∷ before) c) in
      let was : ℕ → ℕ = λ c. length (waiting base limits before c) in
      let out : ℕ → ℕ = λ c. taken_by c step.what in
      let puts : ℕ → ℕ = λ c. length (entries_for c (put base limits before step.what)) in
      let same : sum_by after (open_clients base (step ∷ before)) ≡ sum_by after cs = ap (sum_by after) (clients-quiet base step before none stay) in
      let left : sum_by (λ c. after c + out c) cs ≡ sum_by after cs + sum_by out cs = sum-plus after out cs in
      let right : sum_by (λ c. was c + puts c) cs ≡ sum_by was cs + sum_by puts cs = sum-plus was puts cs in
      let all : sum_by (λ c. after c + out c) cs ≡ sum_by (λ c. was c + puts c) cs = sum-same (λ c. after c + out c) (λ c. was c + puts c) cs (λ c e. flow base limits step before legal allowed c (begun c)) in
      let placed : sum_by puts cs ≡ length (put base limits before step.what) = sum-entries cs once (put base limits before step.what) known in
      omega (arith, same, left, right, all, placed, takes)
