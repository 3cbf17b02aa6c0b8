-- A walk over the pairs of a query.
use Rattle.std.proofs.Common.{◌≡◌, ℕ, List, [], ◌∷◌, Option, None, Some, refl, true, false}
use Rattle.std.specs.Prelude.{bytes_eq}
use Rattle.std.specs.Option.{option_or}
use Rattle.form_urlencoded.specs.Form.{DecodesTo}
use Rattle.http_edge.specs.Routes.{first_among, under}

-- one step: the pair's own answer, or that of the rest
pub first_step : (key name value n v : List ℕ) (all rest : List (List ℕ × List ℕ)) → all ≡ (name, value) ∷ rest
    → DecodesTo name n → DecodesTo value v → first_among key all ≡ option_or (under key n v) (first_among key rest)
unfolding first_among
first_step key name value n v all rest is left right = rw (is, left.2, right.2) refl

-- a pair with this key ends the walk
pub answered : (key n v : List ℕ) (rest all whole : Option (List ℕ)) → bytes_eq n key ≡ true → all ≡ option_or (under key n v) rest → all ≡ whole → Some v ≡ whole
answered key n v rest all whole is step same = rw (← same, step, is) refl

-- one with another leaves the answer to the rest
pub passed : (key n v : List ℕ) (rest all whole : Option (List ℕ)) → bytes_eq n key ≡ false → all ≡ option_or (under key n v) rest → all ≡ whole → rest ≡ whole
passed key n v rest all whole is step same = rw (← same, step, is) refl

-- no pair is left
pub no_more : (key : List ℕ) (all : List (List ℕ × List ℕ)) (whole : Option (List ℕ)) → all ≡ [] → first_among key all ≡ whole → None ≡ whole
unfolding first_among
no_more key all whole none same = rw none at same
