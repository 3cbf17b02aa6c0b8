-- Nothing that the quiz says holds U+001E.
use Rattle.std.proofs.Common.{◌≡◌, refl, ◌≢◌, ℕ, Bool, true, false, List, [], ◌∷◌, ◌++◌, Result, Ok, Err, sym, subst}
use Rattle.std.specs.Prelude.{codes, if◌then◌else◌, is_some, IfOk}
use Rattle.std.proofs.Math.Dec.{eqb}
use Rattle.std.proofs.lemmas.Bool.{eqb-false}
use Rattle.std.proofs.lemmas.List.Elements.{All-nil, All-cons}
use Rattle.eio_wire.specs.Payload.{IsWhole}
use Rattle.events.specs.App.{AllClean, IsCleanArrival}
use Rattle.events.specs.declared.app.Arrived.{Arrived}
use Rattle.events.specs.declared.app.Arrived.TheVariants.{Event, Answer}
use Rattle.events.specs.declared.app.Effect.{Effect}
use Rattle.events.specs.declared.app.Who.{Who}
use Rattle.quiz.specs.Quiz.{begins_with, ask, announce, reply, decided}

unfoldable pub holds_none : List ℕ → Bool
holds_none [] = true
holds_none (b ∷ bs) = if eqb b 30 then false else holds_none bs

whole-step : (b : ℕ) (bs : List ℕ) (is_it : Bool) → eqb b 30 ≡ is_it → (holds_none bs ≡ true → IsWhole bs) → (if is_it then false else holds_none bs) ≡ true → IsWhole (b ∷ bs)
whole-step b bs true is rest none = cc none
whole-step b bs false is rest none = All-cons (λ b. b ≢ 30) b bs (eqb-false b 30 is) (rest none)

-- what doesn't hold it is whole
pub whole : (text : List ℕ) → holds_none text ≡ true → IsWhole text
unfolding holds_none
whole [] none = All-nil (λ b. b ≢ 30)
whole (b ∷ bs) none = whole-step b bs (eqb b 30) refl (whole bs) none

question : IsWhole (codes "[\"question\",\"How much is six times seven?\"]")
unfolding holds_none
question = whole (codes "[\"question\",\"How much is six times seven?\"]") refl

solved : IsWhole (codes "[\"solved\"]")
unfolding holds_none
solved = whole (codes "[\"solved\"]") refl

brackets : IsWhole (codes "[]")
unfolding holds_none
brackets = whole (codes "[]") refl

clean-event : (plays asked : Bool) → AllClean ((if plays then ask ∷ [] else []) ++ (if asked then reply ∷ [] else []))
clean-event true true = (question, (brackets, tt))
clean-event true false = (question, tt)
clean-event false true = (brackets, tt)
clean-event false false = tt

clean-answer : (who : Who) (knows : Bool) → AllClean ((if knows then announce who else ask) ∷ [])
clean-answer who true = (solved, tt)
clean-answer who false = (question, tt)

clean-decided : (who : Who) (arrived : Arrived) → AllClean (decided who arrived)
clean-decided who (Event message) = clean-event (begins_with message.payload (codes "play")) (is_some message.id)
clean-decided who (Answer answer) = clean-answer who (begins_with answer.payload (codes "42"))
clean-decided who _ = tt

-- of the effects that were decided
pub clean-effects : {V E : Type 0} (items : V → List Effect) (who : Who) (arrived : Arrived) (r : Result V E)
    → IfOk r (λ effects. items effects ≡ decided who arrived) → IfOk r (λ effects. IsCleanArrival arrived → AllClean (items effects))
clean-effects items who arrived (Ok effects) is = λ _. subst AllClean (sym is) (clean-decided who arrived)
clean-effects items who arrived (Err e) is = tt
