-- One turn, one attempt or one peer more.
use Rattle.std.proofs.Common.{◌≡◌, ℕ, ◌+◌, List, [], ◌∷◌, ◌++◌, ◌&&◌, Bool, true, false, Option, None, Some, IfSome, option_map, refl, sym, subst, arith, if◌then◌else◌}
use Rattle.std.proofs.lemmas.List.Sums.{sum_by-append}
use Rattle.std.specs.Iterator.{Yields}
use Rattle.hub_gate.specs.Turns.{Turn, Handled, lost_by, failures, last_client, all_heard}

pub last_client-push : (known : Option (ℕ × ℕ)) (served : List Turn) (r : Turn)
    → last_client known (served ++ r ∷ []) ≡ option_map (λ c. (c, r.now)) (lost_by r.event r.got)
last_client-push known [] r = refl
last_client-push known (s ∷ served) r = last_client-push (option_map (λ c. (c, s.now)) (lost_by s.event s.got)) served r

both : (a b : Bool) → (a && b) ≡ true → (a ≡ true) × (b ≡ true)
both true b is = (refl, is)
both false b is = cc

pub all_heard-push : (served : List Turn) (r : Turn) → all_heard served ≡ true → r.heard ≡ true → all_heard (served ++ r ∷ []) ≡ true
all_heard-push [] r all is = rw (is) refl
all_heard-push (s ∷ served) r all is =
    let heard = both s.heard (all_heard served) all in
    rw (heard.0) (all_heard-push served r heard.1 is)

pub failures-push : {P : Type 0} (handled : List (Handled P)) (h : Handled P) (b : Bool) → h.failed ≡ b → failures (handled ++ h ∷ []) ≡ failures handled + (if b then 1 else 0)
failures-push {P} handled h b is =
    let Q : Bool → Type 0 = λ c. failures (handled ++ h ∷ []) ≡ failures handled + (if c then 1 else 0) in
    subst Q is (omega (arith, sum_by-append (λ (x : Handled P). (if x.failed then 1 else 0)) handled (h ∷ [])))

pub yields-push : {S A : Type 0} (steps : S → Option A → S → Type 0) (s : S) (xs : List A) (t : S) (x : A) (u : S) → Yields steps s xs t → steps t (Some x) u → Yields steps s (xs ++ x ∷ []) u
yields-push steps s [] t x u here step = (u, subst (λ w. steps w (Some x) u) (sym here) step, refl)
yields-push steps s (y ∷ ys) t x u here step = (here.0, here.1, yields-push steps here.0 ys t x u here.2 step)

-- what is kept is as it was
pub kept_as : {G : Type 0} (P : G → Type 0) (r : Option G) (x : G) → IfSome r (λ k. k ≡ x) → P x → IfSome r P
kept_as P None x is holds = tt
kept_as P (Some k) x is holds = subst P (sym is) holds
