-- Texts without U+001E, which separates the packets of a payload: literals, hexadecimal digits, and how a socket ended.
use Rattle.std.proofs.Common.{◌≡◌, refl, ◌≢◌, ℕ, zero, suc, ◌/◌, ◌%◌, Bool, true, false, List, [], ◌∷◌, ◌++◌, arith}
use Rattle.std.specs.Prelude.{codes, if◌then◌else◌}
use Rattle.std.proofs.Math.Dec.{eqb}
use Rattle.std.proofs.lemmas.Bool.{eqb-false}
use Rattle.std.proofs.lemmas.Bool.Decides.{nat_tests}
use Rattle.std.proofs.lemmas.List.Elements.{All-nil, All-cons, All-append}
use Rattle.terms.specs.Hexadecimal.{hex_digit, hex_digits}
use Rattle.eio_wire.specs.Payload.{IsWhole}
use Rattle.journal.specs.declared.ending.Ending.{Ending}
use Rattle.journal.specs.declared.ending.Ending.TheVariants.{Saved, Closed, Alone, Together}
use Rattle.journal.specs.declared.ending.Side.TheVariants.{Client, Server}
use Rattle.events.specs.Ending.{ending_word}

-- none of the bytes is it
unfoldable pub holds_none : List ℕ → Bool
holds_none [] = true
holds_none (b ∷ bs) = if eqb b 30 then false else holds_none bs

whole-step : (b : ℕ) (bs : List ℕ) (is_it : Bool) → eqb b 30 ≡ is_it → (holds_none bs ≡ true → IsWhole bs) → (if is_it then false else holds_none bs) ≡ true → IsWhole (b ∷ bs)
whole-step b bs true is rest none = cc none
whole-step b bs false is rest none = All-cons (λ b. b ≢ 30) b bs (eqb-false b 30 is) (rest none)

-- a literal by its bytes
pub whole : (text : List ℕ) → holds_none text ≡ true → IsWhole text
unfolding holds_none
whole [] none = All-nil (λ b. b ≢ 30)
whole (b ∷ bs) none = whole-step b bs (eqb b 30) refl (whole bs) none

pub both : (xs ys : List ℕ) → IsWhole xs → IsWhole ys → IsWhole (xs ++ ys)
both xs ys = All-append (λ b. b ≢ 30) xs ys

whole-digit : (digit : ℕ) → hex_digit digit ≢ 30
whole-digit digit = λ is. grind (arith, nat_tests, is)

pub whole-digits : (width number : ℕ) → IsWhole (hex_digits width number)
unfolding hex_digits
whole-digits zero number = All-nil (λ b. b ≢ 30)
whole-digits (suc width) number =
    both (hex_digits width (number / 16)) (hex_digit (number % 16) ∷ []) (whole-digits width (number / 16))
    (All-cons (λ b. b ≢ 30) (hex_digit (number % 16)) [] (whole-digit (number % 16)) (All-nil (λ b. b ≢ 30)))

pub whole-word : (ending : Ending) → IsWhole (ending_word ending)
unfolding holds_none
whole-word Saved = whole (codes "saved") refl
whole-word Closed = whole (codes "closed") refl
whole-word (Alone Client) = whole (codes "left") refl
whole-word (Alone Server) = whole (codes "alone") refl
whole-word Together = whole (codes "together") refl
