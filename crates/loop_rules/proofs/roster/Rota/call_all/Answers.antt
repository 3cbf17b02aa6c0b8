use Rattle.std.proofs.Common.{◌≡◌, ◌∙◌, ◌⊎◌, inl, inr, ℕ, ◌<◌, ◌+◌, true, length, arith, sym, subst, ap}
use native.Mathlib.Numerals.{unary_clauses}
use Rattle.std.proofs.lemmas.Bool.{cases_eq}
use Rattle.loop_rules.specs.Rotas.{Waiting, look_of, will_look, called_at}
use Rattle.loop_rules.proofs.RotaLemmas.{called_keeps, called_long}
use Rattle.loop_rules.proofs.roster.Rota.call_all.Goals as goal

-- one more is called
called-more : (old new : Waiting) (key : ℕ) → new ≡ called_at key old → will_look (look_of new.looks key) ≡ true
    → ((k : ℕ) → k < key → will_look (look_of old.looks k) ≡ true) → (k : ℕ) → k < key + 1 → (k ≡ key) ⊎ (k ≡ key → ⊥)
    → will_look (look_of new.looks k) ≡ true
called-more old new key is here before k below (inl same) = subst (λ x. will_look (look_of new.looks x) ≡ true) (sym same) here
called-more old new key is here before k below (inr other) =
    let less : k < key = omega (arith, other) in
    rw is (called_keeps old key k (before k less))

pub loop-key-preserved : goal.loop-key-preserved
loop-key-preserved c =
    let all = ap (λ (w : Waiting). length w.looks) c.self.view_is in
    let here = c.call.ensures.looks (omega (arith, c.loop-key.invariant.same, c.len-key-end.ensures, c.loop-key-test.true, all)) in
    record {
      called = λ k below. called-more c.loop-key.self c.call.new.self c.loop-key.key c.call.ensures.state here c.loop-key.invariant.called k below (cases_eq k c.loop-key.key);
      same = ap (λ (w : Waiting). length w.looks) c.call.ensures.state ∙ called_long c.loop-key.self c.loop-key.key ∙ c.loop-key.invariant.same;
      state = simp unary_clauses (c.call.ensures.state ∙ ap (called_at c.loop-key.key) c.loop-key.invariant.state);
    }
