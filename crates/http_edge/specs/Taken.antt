-- What a reader of one request has taken from the bytes that were left.
use Rattle.std.specs.Prelude.{◌≡◌, ◌++◌, ◌+◌, ◌-◌, ◌^◌, min, zero, suc, ℕ, List, Option, None, Some, Result, Ok, Err}
use Rattle.std.specs.Io.KnownBytes.{Consumes}
use Rattle.http_edge.specs.Request.{Asked}
use Rattle.http_edge.specs.Reading.{IsFault, IsUnfinished, request_bytes}
use Rattle.http_edge.specs.declared.request.Request.{Request}
use Rattle.http_edge.specs.declared.error.EdgeError.{EdgeError}
use Rattle.http_edge.specs.declared.error.EdgeError.TheVariants.{Memory, Device, EarlyEnd, BadHead, HeadTooLong, BodyTooLong, NoLength, NotUtf8, TurnsSpent}

-- why no request was read, when just these bytes came: they have a fault, or they are
-- unfinished and no more came
abbrev pub IsReadFault : EdgeError → List ℕ → Type 0
IsReadFault Memory bytes = IsFault Memory bytes
IsReadFault Device bytes = IsUnfinished bytes
IsReadFault EarlyEnd bytes = IsUnfinished bytes
IsReadFault BadHead bytes = IsFault BadHead bytes
IsReadFault HeadTooLong bytes = IsFault HeadTooLong bytes
IsReadFault BodyTooLong bytes = IsFault BodyTooLong bytes
IsReadFault NoLength bytes = IsFault NoLength bytes
IsReadFault NotUtf8 bytes = IsFault NotUtf8 bytes
IsReadFault TurnsSpent bytes = IsUnfinished bytes

-- such bytes were taken
abbrev pub TakesFault : Option (List ℕ) → Option (List ℕ) → EdgeError → Type 0
TakesFault before after e = (bytes : List ℕ) × Consumes before after bytes × IsReadFault e bytes

-- the request and the bytes behind it, which came with it, were taken
abbrev pub TakesRequest : Option (List ℕ) → Option (List ℕ) → Request → Type 0
TakesRequest before after q =
    Asked q (request_bytes q) × Consumes before after (request_bytes q ++ q.rest.items)

-- a first part of a request was taken, which is what was gathered
abbrev pub TakesPart : Option (List ℕ) → Option (List ℕ) → Result (List ℕ) EdgeError → Type 0
TakesPart before after (Ok bytes) = Consumes before after bytes × IsUnfinished bytes
TakesPart before after (Err e) = ⊥

-- what one read has led to
abbrev pub TakesOn :
    Option (List ℕ) → Option (List ℕ) → Result (List ℕ) EdgeError
    → Result (Option Request) EdgeError → Type 0
TakesOn before after gathered (Ok None) = TakesPart before after gathered
TakesOn before after gathered (Ok (Some q)) = TakesRequest before after q
TakesOn before after gathered (Err e) = TakesFault before after e

-- so many reads were asked of a wire, whose count stays at the greatest u64
abbrev pub ReadsMore : ℕ → ℕ → ℕ → Type 0
ReadsMore before after zero = after ≡ before
ReadsMore before after (suc n) = after ≡ min (before + suc n) (2 ^ 64 - 1)
