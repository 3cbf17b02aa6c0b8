-- What comes of what a connection does.
use Rattle.std.proofs.Common.{◌≡◌, ◌∙◌, ◌++◌, ℕ, List, Ok, Err, Result, refl, ap, append_assoc}
use Rattle.http_edge.specs.SoFar.{fed}
use Rattle.http_edge.specs.declared.error.EdgeError.{EdgeError}

-- two pieces are one
fed-fed : (old : Result (List ℕ) EdgeError) (a b : List ℕ) → fed (fed old a) b ≡ fed old (a ++ b)
fed-fed (Ok bytes) a b = ap Ok (append_assoc bytes a b)
fed-fed (Err e) a b = refl

-- one piece more
pub fed_on : (old middle new : Result (List ℕ) EdgeError) (a b : List ℕ) → middle ≡ fed old a → new ≡ fed middle b
    → new ≡ fed old (a ++ b)
fed_on old middle new a b before after = after ∙ ap (λ g. fed g b) before ∙ fed-fed old a b
