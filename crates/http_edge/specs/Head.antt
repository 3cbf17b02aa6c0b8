-- What is kept of a head once it was read.
use Rattle.std.specs.Prelude.{◌≡◌, Bool, true, false, ◌≢◌, ◌⊎◌, ◌<◌, ◌≤◌, List, ℕ, length, codes, option_map, string_bytes}
use Rattle.std.specs.List.{list_any}
use Rattle.httparse.specs.Grammar.{RequestHead, ReadsRequest, MayBecomeRequest, print_request}
use Rattle.http_edge.specs.Request.{HasBodyOf, IsTargetOf, IsOnlyText, values, fields_of, is_upgrade}
use Rattle.http_edge.specs.Reading.{StartsWith, HasEmptyLine, HasBegun, EndsNoLine, MayBegin, front}
use Rattle.http_edge.specs.LineState.{walk}
use Rattle.http_edge.specs.declared.head.LineState.{LineState}
use Rattle.http_edge.specs.declared.head.LineState.TheVariants.{Blank, Empty}
use Rattle.http_edge.specs.declared.head.Head.{Head}

-- the parts of the head h
pub record IsHeadOf (head : Head) (h : RequestHead) : Type 0 where
  pub method : string_bytes head.method ≡ h.method
  pub target : IsTargetOf h.target (string_bytes head.path) (string_bytes head.query)
  pub upgrade : head.upgrade ≡ list_any is_upgrade (fields_of h)
  pub origin : IsOnlyText
      (values (codes "origin") (fields_of h)) (option_map string_bytes head.origin)
  pub len : head.len ≡ length (print_request h)
  pub body : HasBodyOf h head.body_len

-- the bytes begin with that head, and its body isn't whole
abbrev pub Awaits : Head → List ℕ → Type 0
Awaits head bytes = (h : RequestHead) × (rest : List ℕ)
    × StartsWith bytes h rest × IsHeadOf head h × (length rest < head.body_len)

-- a head with at most 100 fields, of which P holds, is at the front of the bytes
abbrev pub HasParsed : List ℕ → (RequestHead → Type 0) → Type 0
HasParsed bytes P = (h : RequestHead) × (rest : List ℕ)
    × ReadsRequest bytes h rest × (length h.fields ≤ 100) × P h

-- the bytes begin with that head
abbrev pub Begins : Head → List ℕ → Type 0
Begins head bytes = (h : RequestHead) × (rest : List ℕ) × StartsWith bytes h rest × IsHeadOf head h

-- the empty line hasn't come
pub record IsOpening (line : LineState) (bytes : List ℕ) : Type 0 where
  pub walked : line ≡ walk Blank bytes
  pub unended : line ≢ Empty
  pub short : length bytes < 16384
  pub may : HasBegun bytes → MayBegin bytes

-- where this piece leaves the start line unbegun, or ends no line of a head that has
-- begun, nothing is judged
abbrev pub IsJudged :
    (before : LineState) → (piece : List ℕ) → (after : LineState) → (bytes : List ℕ) → Type 0
IsJudged before piece after bytes =
    (after ≡ Blank) ⊎ ((before ≢ Blank) × EndsNoLine piece) ⊎ MayBecomeRequest bytes

-- the head has ended; or it hasn't, and too many bytes came
abbrev pub Decided : Bool → List ℕ → Type 0
Decided true bytes = HasEmptyLine (front bytes)
Decided false bytes = (16384 ≤ length bytes) × (¬ HasEmptyLine (front bytes))
