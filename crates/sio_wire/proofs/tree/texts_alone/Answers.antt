use Rattle.std.proofs.Common.{◌≡◌, ℕ, List, ◌∷◌, Option, Some, None, Result, Ok, Err, map, ap, ◌∙◌, arith}
use Rattle.std.specs.Prelude.{IfOk, MatchOption}
use Rattle.json.specs.Token.{Token, begin_array}
use Rattle.json.specs.Lex.{tokens}
use Rattle.sio_wire.specs.Texts.{text_tokens, AreAlone, IsArrayOf, EndsInTexts}
use Rattle.sio_wire.proofs.tree.texts_alone.Goals as goal

-- what is said of the tokens behind the bracket, of the payload
whole : {V E : Type 0} (items : V → List (Option (List ℕ))) (payload : List ℕ) (rest : List Token) (answer : Result (Option V) E)
    → tokens payload ≡ begin_array ∷ rest
    → IfOk answer (λ found. MatchOption found (¬ EndsInTexts rest)
    (λ v. (texts : List (List ℕ)) × (rest ≡ text_tokens texts) × (items v ≡ map Some texts)))
    → IfOk answer (λ found. MatchOption found ((texts : List (List ℕ)) → ¬ IsArrayOf texts payload) (λ v. AreAlone (items v) payload))
whole items payload rest (Err e) begins left = left
whole items payload rest (Ok None) begins left = λ texts is. left (texts, cc (begins, is))
whole items payload rest (Ok (Some v)) begins left =
    (left.0, begins ∙ ap (λ more. begin_array ∷ more) left.1, left.2)

pub returns-in-Some-BeginArray : goal.returns-in-Some-BeginArray
returns-in-Some-BeginArray c = whole _ c.args.payload.now c.next.new.self c.texts_left.result (grind arith) c.texts_left.ensures
