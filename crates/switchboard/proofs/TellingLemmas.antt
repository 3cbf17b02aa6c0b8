-- Texts that are told: where an array begins, and what holds no U+001E.
use Rattle.std.proofs.Common.{◌≡◌, refl, ◌≢◌, ℕ, suc, ◌+◌, Bool, true, false, ◌||◌, ◌==◌, not, cond, List, [], ◌∷◌, ◌++◌, length, arith}
use Rattle.std.specs.Prelude.{codes, if◌then◌else◌}
use Rattle.std.specs.List.{position_or_len, list_any}
use Rattle.std.proofs.lemmas.List.Elements.{All-drop}
use Rattle.eio_wire.specs.Payload.{IsWhole}
use Rattle.events.proofs.WholeLemmas.{holds_none, both, whole}
use Rattle.switchboard.specs.Telling.{after_bracket, begins_with_end, with_elements, with_element}

step : (passes : Bool) (n k : ℕ) (rest : Bool) → cond (not passes) (1 + n) 0 ≡ suc k → (n ≡ k → rest ≡ false) → (passes || rest) ≡ false
step true n k rest is more = absurd (omega (arith, is))
step false n k rest is more = more (omega (arith, is))

-- no element passes a test, where the first that does is none
pub none_passes : (p : ℕ → Bool) (xs : List ℕ) → position_or_len p xs ≡ length xs → list_any p xs ≡ false
none_passes p [] is = refl
none_passes p (x ∷ xs) is = step (p x) (position_or_len p xs) (length xs) (list_any p xs) is (none_passes p xs)

whole-chosen : (b : Bool) (xs ys : List ℕ) → IsWhole xs → IsWhole ys → IsWhole (if b then xs else ys)
whole-chosen true xs ys x y = x
whole-chosen false xs ys x y = y

whole-after_bracket : (array : List ℕ) → IsWhole array → IsWhole (after_bracket array)
unfolding holds_none
whole-after_bracket array clean =
    whole-chosen (list_any (λ b. b == 91) array) _ (codes "]") (All-drop (λ b. b ≢ 30) _ array clean) (whole (codes "]") refl)

whole-comma : (text rest : List ℕ) → IsWhole text → IsWhole rest → IsWhole (text ++ codes "," ++ rest)
unfolding holds_none
whole-comma text rest front back = both (text ++ codes ",") rest (both text (codes ",") front (whole (codes ",") refl)) back

pub whole-with_elements : (text array : List ℕ) → IsWhole text → IsWhole array → IsWhole (with_elements text array)
whole-with_elements text array front clean =
    let rest = after_bracket array in
    let back = whole-after_bracket array clean in
    whole-chosen (begins_with_end rest) (text ++ rest) (text ++ codes "," ++ rest) (both text rest front back) (whole-comma text rest front back)

pub whole-with_element : (text element : List ℕ) → IsWhole text → IsWhole element → IsWhole (with_element text element)
whole-with_element text [] front back = front
whole-with_element text (b ∷ bs) front back = whole-comma text (b ∷ bs) front back
