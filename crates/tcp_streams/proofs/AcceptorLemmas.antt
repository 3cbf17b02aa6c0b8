-- What becomes of a dealing while connections are accepted.
use Rattle.std.proofs.Common.{◌≡◌, ◌∙◌, ℕ, ◌+◌, ◌-◌, ◌≤◌, inl, inr, false, Option, None, Some, option_map, IfSome, nat_eq, refl, ap, arith}
use Rattle.std.proofs.lemmas.Bool.Decides.{nat_tests}
use Rattle.loop_rules.specs.declared.dealing.Dealing.{Dealing}
use Rattle.loop_rules.specs.Dealings.{is_over}
use Rattle.tcp_streams.specs.Acceptors.{Deals, DealsOne}

none-few : (left : Option ℕ) → IfSome left (λ n. 0 ≤ n)
none-few None = tt
none-few (Some n) = omega arith

all-left : (left : Option ℕ) → left ≡ option_map (λ n. n - 0) left
all-left None = refl
all-left (Some n) = ap Some (omega arith)

-- none was accepted yet
pub deals_none : (d : Dealing) → Deals d d
deals_none d = record {
  accepted = 0;
  few = none-few d.left;
  left = all-left d.left;
  given = omega arith;
  most = refl;
  together = refl;
}

one-less : (before left : Option ℕ) (k : ℕ) → left ≡ option_map (λ n. n - k) before
    → option_map (λ n. n - 1) left ≡ option_map (λ n. n - (k + 1)) before
one-less None left k is = rw is refl
one-less (Some n) left k is = let less : (n - k) - 1 ≡ n - (k + 1) = omega arith in rw is (ap Some less)

still-few : (before left : Option ℕ) (k : ℕ) → left ≡ option_map (λ n. n - k) before → is_over left ≡ false
    → IfSome before (λ n. k ≤ n) → IfSome before (λ n. k + 1 ≤ n)
still-few None left k is on few = few
still-few (Some n) left k is on few =
    let some : nat_eq (n - k) 0 ≡ false = rw is at on in
    grind (arith, nat_tests, some, few)

pub record IsOneMore (old new : Dealing) : Type 0 where
  pub left : new.left ≡ option_map (λ n. n - 1) old.left
  pub given : new.given ≤ old.given + 1
  pub most : new.most ≡ old.most
  pub together : new.together ≡ old.together

one-more : (old new : Dealing) → DealsOne old new → IsOneMore old new
one-more old new (inl is) = rw is (record { left = refl; given = omega arith; most = refl; together = refl })
one-more old new (inr is) = rw is (record { left = refl; given = omega arith; most = refl; together = refl })

-- one more was accepted, where some were left
pub deals_more : (old mid new : Dealing) → Deals old mid → is_over mid.left ≡ false → DealsOne mid new → Deals old new
deals_more old mid new before on one =
    let step = one-more mid new one in
    record {
      accepted = before.accepted + 1;
      few = still-few old.left mid.left before.accepted before.left on before.few;
      left = step.left ∙ one-less old.left mid.left before.accepted before.left;
      given = omega (arith, step.given, before.given);
      most = step.most ∙ before.most;
      together = step.together ∙ before.together;
    }
