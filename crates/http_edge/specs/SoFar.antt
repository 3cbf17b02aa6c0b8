-- What the bytes so far have led to.
use Rattle.std.specs.Prelude.{◌≡◌, ◌++◌, ℕ, List, Result, Ok, Err}
use Rattle.http_edge.specs.Reading.{IsFault, IsRequestIn, IsUnfinished}
use Rattle.http_edge.specs.declared.error.EdgeError.{EdgeError}
use Rattle.http_edge.specs.declared.request.SoFar.{SoFar}
use Rattle.http_edge.specs.declared.request.SoFar.TheVariants.{Opening, Filling, Failed}
use Rattle.http_edge.specs.declared.request.Fed.{Fed}
use Rattle.http_edge.specs.declared.request.Fed.TheVariants.{More, Done}

-- the bytes so far, or the fault that was found
abbrev pub so_far : SoFar → Result (List ℕ) EdgeError
so_far (Opening o) = Ok o
so_far (Filling f) = Ok f
so_far (Failed e) = Err e

-- one piece more
abbrev pub fed : Result (List ℕ) EdgeError → List ℕ → Result (List ℕ) EdgeError
fed (Ok bytes) piece = Ok (bytes ++ piece)
fed (Err e) piece = Err e

-- where these bytes lead
abbrev pub StepsTo : List ℕ → Result Fed EdgeError → Type 0
StepsTo bytes (Ok (More come)) = IsUnfinished bytes × (so_far come ≡ Ok bytes)
StepsTo bytes (Ok (Done q)) = IsRequestIn q bytes
StepsTo bytes (Err e) = IsFault e bytes
