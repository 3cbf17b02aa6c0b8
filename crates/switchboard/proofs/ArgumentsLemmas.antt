-- What is left of a command's elements, and that it reads back.
use Rattle.std.proofs.Common.{◌≡◌, refl, ap, ℕ, ◌≤◌, List, [], ◌∷◌, length, Option, Some, None, option_and_then, arith}
use Rattle.json.specs.Token.{Token}
use Rattle.json.specs.Lex.{tokens}
use Rattle.json.specs.Json.{Json, null, boolean, number, string, array, object, no_items, item, value, if_last, max_depth, document}
use Rattle.json.specs.Tree.{depth, HasNumbers, ItemsHaveNumbers}
use Rattle.json.specs.Value.{items_view}
use Rattle.json.specs.declared.value.Value.{Value}
use Rattle.json.proofs.Found.{not_found, Some_inj}
use Rattle.json.proofs.Nesting.{value-depth}
use Rattle.json.proofs.Numbered.{document-HasNumbers}
use Rattle.json.proofs.Printed.Trees.{document-print}
use Rattle.switchboard.specs.Arguments.{after_two, elements, arguments_array, arguments}

-- nothing after at most two
pub few : {A : Type 0} (vs : List (Value A)) → length vs ≤ 2 → no_items ≡ after_two (items_view vs)
few [] short = refl
few (v ∷ []) short = refl
few (v ∷ w ∷ []) short = refl
few (v ∷ w ∷ x ∷ vs) short = absurd (omega arith)

pub numbers-arguments : (command : Json) → HasNumbers command → ItemsHaveNumbers (after_two (elements command))
numbers-arguments null numbers = tt
numbers-arguments (boolean b) numbers = tt
numbers-arguments (number s) numbers = tt
numbers-arguments (string s) numbers = tt
numbers-arguments (object ms) numbers = tt
numbers-arguments (array no_items) numbers = tt
numbers-arguments (array (item name no_items)) numbers = tt
numbers-arguments (array (item name (item options rest))) numbers = numbers.1.1

depth-arguments : (command : Json) → depth command ≤ max_depth → depth (arguments_array command) ≤ max_depth
depth-arguments null shallow = omega arith
depth-arguments (boolean b) shallow = omega arith
depth-arguments (number s) shallow = omega arith
depth-arguments (string s) shallow = omega arith
depth-arguments (object ms) shallow = omega arith
depth-arguments (array no_items) shallow = omega arith
depth-arguments (array (item name no_items)) shallow = omega arith
depth-arguments (array (item name (item options rest))) shallow = omega arith

parsed : (r : Option (Json × List Token)) (j : Json) → option_and_then (λ p. if_last p.0 p.1) r ≡ Some j → (rest : List Token) × (r ≡ Some (j, rest))
parsed None j is = not_found j is
parsed (Some (k, [])) j is = ([], ap (λ v. Some (v, [])) (Some_inj k j is))
parsed (Some (k, t ∷ ts)) j is = not_found j is

document-depth : (text : List ℕ) (j : Json) → document text ≡ Some j → depth j ≤ max_depth
document-depth text j is =
    let found = parsed (value max_depth (tokens text)) j is in
    value-depth max_depth (tokens text) found.0 j found.1

pub read_back : (payload : List ℕ) (command : Json) → document payload ≡ Some command → document (arguments command) ≡ Some (arguments_array command)
read_back payload command is =
    document-print (arguments_array command)
    (numbers-arguments command (document-HasNumbers payload command is))
    (depth-arguments command (document-depth payload command is))
