-- What the bytes are that came so far: a request, a first part of one, or none
-- for a reason (RFC 9112).
use Rattle.std.specs.Prelude.{◌≡◌, ◌⊎◌, ◌<◌, ◌≤◌, ◌==◌, ◌||◌, ◌++◌, ℕ, Bool, true, false, not, List, ◌∷◌, Option, None, Some, Result, Ok, Err, length, take, IsUtf8, string_bytes, ⊤}
use Rattle.std.specs.List.{list_any}
use Rattle.httparse.specs.Grammar.{RequestHead, ReadsRequest, MayBecomeRequest, LineEnd, print_end, print_request}
use Rattle.httparse.specs.Spans.{RequestOverflows}
use Rattle.http_edge.specs.Request.{Asked, HasBodyOf, NamesLength, fields_of, is_post}
use Rattle.http_edge.specs.declared.request.Request.{Request}
use Rattle.http_edge.specs.declared.error.EdgeError.{EdgeError}
use Rattle.http_edge.specs.declared.error.EdgeError.TheVariants.{Memory, Device, EarlyEnd, BadHead, HeadTooLong, BodyTooLong, NoLength, NotUtf8, TurnsSpent}

-- ---- the head

-- the bytes in which a head has to end
abbrev pub front : List ℕ → List ℕ
front bytes = take 16384 bytes

-- a byte that ends no line
abbrev pub is_text : ℕ → Bool
is_text b = not (b == 13 || b == 10)

-- an empty line follows a line that isn't empty: the head has ended, be it one or not (section 2.1;
-- empty lines before the start line are passed over, section 2.2)
abbrev pub HasEmptyLine : List ℕ → Type 0
HasEmptyLine bytes =
    (lines : List ℕ) × (end : LineEnd) × (rest : List ℕ)
    × (bytes ≡ lines ++ ((10 ∷ print_end end) ++ rest)) × (list_any is_text lines ≡ true)

-- the bytes begin with this head, and rest follows it
pub record StartsWith (bytes : List ℕ) (h : RequestHead) (rest : List ℕ) : Type 0 where
  pub reads : ReadsRequest bytes h rest
  pub few : length h.fields ≤ 100
  pub short : length (print_request h) ≤ 16384

-- no head of at most 100 fields is at their front
abbrev pub HasNoHead : List ℕ → Type 0
HasNoHead bytes =
    (h : RequestHead) (rest : List ℕ) → ReadsRequest bytes h rest → 100 < length h.fields

-- the start line has begun
abbrev pub HasBegun : List ℕ → Type 0
HasBegun bytes = list_any is_text bytes ≡ true

-- no line ends in the bytes
abbrev pub EndsNoLine : List ℕ → Type 0
EndsNoLine bytes = list_any (λ b. b == 10) bytes ≡ false

-- what came up to the last line end, and of the start line its first byte at
-- least, may become a head
pub record MayBegin (bytes : List ℕ) : Type 0 where
  pub judged : List ℕ
  pub rest : List ℕ
  pub parts : bytes ≡ judged ++ rest
  pub begun : HasBegun judged
  pub unended : EndsNoLine rest
  pub may : MayBecomeRequest judged

-- ---- faults, of which each is found before the next is looked for

-- the head has ended and is none; or nothing that follows makes the bytes one
abbrev pub IsBadHead : List ℕ → Type 0
IsBadHead bytes =
    HasNoHead (front bytes) × (HasEmptyLine (front bytes) ⊎ RequestOverflows 100 (front bytes))

-- too many bytes came, and it could still become a head
abbrev pub IsHeadTooLong : List ℕ → Type 0
IsHeadTooLong bytes =
    (16384 ≤ length bytes) × (¬ HasEmptyLine (front bytes)) × MayBecomeRequest (front bytes)

-- a POST that doesn't name the length of its body
abbrev pub LacksLength : RequestHead → Type 0
LacksLength h = (is_post h ≡ true) × ((n : ℕ) → ¬ NamesLength (fields_of h) n)

-- a POST that names too great a length
abbrev pub NamesTooMuch : RequestHead → Type 0
NamesTooMuch h = (is_post h ≡ true) × (n : ℕ) × NamesLength (fields_of h) n × (1000000 < n)

-- the bytes begin with a head of which P holds
abbrev pub HasHead : (RequestHead → List ℕ → Type 0) → List ℕ → Type 0
HasHead P bytes = (h : RequestHead) × (rest : List ℕ) × StartsWith bytes h rest × P h rest

-- the body isn't whole
abbrev pub LacksBody : RequestHead → List ℕ → Type 0
LacksBody h rest = (n : ℕ) × HasBodyOf h n × (length rest < n)

-- the body is whole, and no text
abbrev pub HasNoText : RequestHead → List ℕ → Type 0
HasNoText h rest = (n : ℕ) × HasBodyOf h n × (n ≤ length rest) × (¬ IsUtf8 (take n rest))

-- no fault of the bytes is `Device`, `EarlyEnd` or `TurnsSpent`
abbrev pub IsFault : EdgeError → List ℕ → Type 0
IsFault Memory bytes = ⊤
IsFault Device bytes = ⊥
IsFault EarlyEnd bytes = ⊥
IsFault BadHead bytes = IsBadHead bytes
IsFault HeadTooLong bytes = IsHeadTooLong bytes
IsFault BodyTooLong bytes = HasHead (λ h rest. NamesTooMuch h) bytes
IsFault NoLength bytes = HasHead (λ h rest. LacksLength h) bytes
IsFault NotUtf8 bytes = HasHead HasNoText bytes
IsFault TurnsSpent bytes = ⊥

-- ---- the answer

-- a first part of a request, of which no fault is known
abbrev pub IsUnfinished : List ℕ → Type 0
IsUnfinished bytes =
    ((length bytes < 16384) × (¬ HasEmptyLine bytes) × (HasBegun bytes → MayBegin bytes))
    ⊎ HasHead LacksBody bytes

-- the request and what follows it are these bytes
abbrev pub request_bytes : Request → List ℕ
request_bytes q = q.head.items ++ string_bytes q.body

abbrev pub IsRequestIn : Request → List ℕ → Type 0
IsRequestIn q bytes = Asked q (request_bytes q) × (bytes ≡ request_bytes q ++ q.rest.items)

-- what is answered to the bytes so far, in whatever pieces they came: a request, that more
-- is needed, or the fault
abbrev pub Answers : List ℕ → Result (Option Request) EdgeError → Type 0
Answers bytes (Ok None) = IsUnfinished bytes
Answers bytes (Ok (Some q)) = IsRequestIn q bytes
Answers bytes (Err e) = IsFault e bytes
