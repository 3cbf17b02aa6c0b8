-- What is read of a reader of which no more than so many bytes are taken.
use Rattle.std.proofs.Common.{arith, ◌≡◌, ◌<◌, ℕ, List, Option, None, Some, IfSome, length, ◌∙◌, subst}
use Rattle.std.proofs.Math.ListN.{take}
use Rattle.std.specs.Option.{option_map}
use Rattle.std.proofs.lemmas.List.{length-take, take_all}

-- where less was read than might be, it is all, and has what holds of it
pub of_all : (P : List ℕ → Type 0) (known : Option (List ℕ)) (most : ℕ) (bytes : List ℕ) → IfSome (option_map (take most) known) (λ part. bytes ≡ part) → length bytes < most → P bytes → IfSome known P
of_all P None most bytes is less holds = tt
of_all P (Some all) most bytes is less holds =
    let short : length all < most = omega (arith, length-take most all, rw (is) at less) in
    subst P (is ∙ take_all most all (omega arith)) holds
