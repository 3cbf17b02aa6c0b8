-- Why the core is told of a loss again.
use Rattle.std.proofs.Common.{◌≡◌, ℕ, ◌<◌, ◌&&◌, ◌+◌, ◌-◌, List, [], ◌∷◌, ◌++◌, length, map, Bool, true, false, nat_lt, cond, is_err, arith, refl, subst}
use Rattle.std.proofs.lemmas.Bool.Decides.{nat_tests}
use Rattle.std.proofs.lemmas.List.{length-map, map-append}
use Rattle.std.proofs.lemmas.List.Elements.{All-append, All-cons, All-nil}
use Rattle.std.specs.List.{All}
use Rattle.events.specs.Answer.{Answer}
use Rattle.events.specs.declared.loss.Retry.TheVariants as retry
use Rattle.events.specs.Loss.{AreTries, follows}
use Rattle.hub_gate.specs.Turns.{Attempt}

again_by : (refused more : Bool) → cond (refused && more) retry.Again retry.Over ≡ retry.Again → (refused ≡ true) × (more ≡ true)
again_by true true is = (refl, refl)
again_by true false is = absurd (cc (is))
again_by false more is = absurd (cc (is))

-- it refused that, and this wasn't the last time
pub told_again : (left : ℕ) (got : Answer) → follows left got ≡ retry.Again → (is_err got ≡ true) × (1 < left)
told_again left got is =
    let both = again_by (is_err got) (nat_lt 1 left) is in
    (both.0, grind (arith, nat_tests, both.1))

abbrev pub AreRefused : List Attempt → Type 0
AreRefused attempts = All (λ (got : Answer). is_err got ≡ true) (map (λ (a : Attempt). a.got) attempts)

pub refused_more : (attempts : List Attempt) (a : Attempt) → AreRefused attempts → is_err a.got ≡ true → AreRefused (attempts ++ a ∷ [])
refused_more attempts a all one =
    let Refused : Answer → Type 0 = λ (got : Answer). is_err got ≡ true in
    rw (map-append (λ (x : Attempt). x.got) attempts (a ∷ []))
    (All-append Refused (map (λ (x : Attempt). x.got) attempts) (a.got ∷ []) all (All-cons Refused a.got [] one (All-nil Refused)))

-- the last try
pub tries_end : (attempts : List Attempt) (a : Attempt) (left : ℕ) → AreRefused attempts → left + length attempts ≡ 3 → 0 < left → follows left a.got ≡ retry.Over
    → AreTries (map (λ (x : Attempt). x.got) (attempts ++ a ∷ []))
tries_end attempts a left all count more over =
    let long : length (map (λ (x : Attempt). x.got) attempts) ≡ length attempts = length-map attempts (λ (x : Attempt). x.got) in
    let same : left ≡ 3 - length (map (λ (x : Attempt). x.got) attempts) = omega (arith, long) in
    record {
      refused = map (λ (x : Attempt). x.got) attempts;
      last = a.got;
      are = map-append (λ (x : Attempt). x.got) attempts (a ∷ []);
      again = all;
      fewer = omega (arith, long);
      over = subst (λ (n : ℕ). follows n a.got ≡ retry.Over) same over;
    }
