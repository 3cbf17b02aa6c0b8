-- Reads one after another.
use Rattle.std.proofs.Common.{◌≡◌, ◌≢◌, ◌+◌, ◌-◌, ◌^◌, ◌++◌, ℕ, List, [], Option, None, Some, Result, Ok, Err, min, zero, suc, refl, arith, rules, append-nil}
use Rattle.std.specs.Prelude.{IsOk, IfOk, IfErr, take}
use Rattle.std.specs.Io.KnownBytes.{Consumes, Keeps}
use Rattle.std.proofs.KnownBytes.{Consumes-trans, Consumes-kept}
use Rattle.http_edge.specs.Reading.{Answers, IsFault}
use Rattle.http_edge.specs.SoFar.{fed}
use Rattle.http_edge.specs.Taken.{TakesPart, TakesOn, TakesRequest, TakesFault, IsReadFault, ReadsMore}
use Rattle.http_edge.specs.declared.request.Request.{Request}
use Rattle.http_edge.specs.declared.error.EdgeError.{EdgeError}
use Rattle.http_edge.specs.declared.error.EdgeError.TheVariants.{Memory, Device, EarlyEnd, BadHead, HeadTooLong, BodyTooLong, NoLength, NotUtf8, TurnsSpent}

-- the wire broke
pub broke : (g : Result (List ℕ) EdgeError) (start a b : Option (List ℕ)) → Keeps a b → TakesPart start a g → TakesFault start b Device
broke (Ok bytes) start a b kept part = (bytes, Consumes-kept start a b bytes part.0 kept, part.1)
broke (Err e) start a b kept part = absurd part

-- no byte was left
pub ended_early : (g : Result (List ℕ) EdgeError) (start a b : Option (List ℕ)) (buf : List ℕ) (n : ℕ) → n ≡ 0 → Consumes a b (take n buf) → TakesPart start a g
    → TakesFault start b EarlyEnd
ended_early (Ok bytes) start a b buf n none taken part =
    (bytes, rw (append-nil bytes) at (Consumes-trans start a b bytes [] part.0 (rw none at taken)), part.1)
ended_early (Err e) start a b buf n none taken part = absurd part

read_fault : (e : EdgeError) (bytes : List ℕ) → IsFault e bytes → IsReadFault e bytes
read_fault Memory bytes fault = fault
read_fault Device bytes fault = absurd fault
read_fault EarlyEnd bytes fault = absurd fault
read_fault BadHead bytes fault = fault
read_fault HeadTooLong bytes fault = fault
read_fault BodyTooLong bytes fault = fault
read_fault NoLength bytes fault = fault
read_fault NotUtf8 bytes fault = fault
read_fault TurnsSpent bytes fault = absurd fault

-- one piece more was gathered
by_answer : (bytes piece : List ℕ) (g : Result (List ℕ) EdgeError) (r : Result (Option Request) EdgeError) (start a b : Option (List ℕ)) → Consumes a b piece
    → Consumes start a bytes → Answers (bytes ++ piece) r → IfOk r (λ answer. answer ≡ None → g ≡ Ok (bytes ++ piece)) → TakesOn start b g r
by_answer bytes piece g (Ok None) start a b taken before answer more = rw (more refl) (Consumes-trans start a b bytes piece before taken, answer)
by_answer bytes piece g (Ok (Some q)) start a b taken before answer more = (answer.0, rw answer.1 at (Consumes-trans start a b bytes piece before taken))
by_answer bytes piece g (Err e) start a b taken before answer more = (bytes ++ piece, Consumes-trans start a b bytes piece before taken, read_fault e (bytes ++ piece) answer)

pub fed_on : (old g : Result (List ℕ) EdgeError) (r : Result (Option Request) EdgeError) (piece : List ℕ) (start a b : Option (List ℕ)) → Consumes a b piece
    → ((bytes : List ℕ) → old ≡ Ok bytes → Answers (bytes ++ piece) r) → IfOk r (λ answer. answer ≡ None → g ≡ fed old piece)
    → TakesPart start a old → TakesOn start b g r
fed_on (Ok bytes) g r piece start a b taken answer more part = by_answer bytes piece g r start a b taken part.0 (answer bytes refl) more
fed_on (Err e) g r piece start a b taken answer more part = absurd part

pub still_ok : (old g : Result (List ℕ) EdgeError) (piece : List ℕ) → IsOk old → g ≡ fed old piece → IsOk g
still_ok (Ok bytes) g piece ok is = rw is refl
still_ok (Err e) g piece ok is = absurd (search (rules, ok))

-- no fault of bytes is one of reading
bytes_fault : (e : EdgeError) (bytes : List ℕ) → IsFault e bytes → (e ≢ Device) × (e ≢ EarlyEnd) × (e ≢ TurnsSpent)
bytes_fault Memory bytes fault = (λ is. cc, λ is. cc, λ is. cc)
bytes_fault Device bytes fault = absurd fault
bytes_fault EarlyEnd bytes fault = absurd fault
bytes_fault BadHead bytes fault = (λ is. cc, λ is. cc, λ is. cc)
bytes_fault HeadTooLong bytes fault = (λ is. cc, λ is. cc, λ is. cc)
bytes_fault BodyTooLong bytes fault = (λ is. cc, λ is. cc, λ is. cc)
bytes_fault NoLength bytes fault = (λ is. cc, λ is. cc, λ is. cc)
bytes_fault NotUtf8 bytes fault = (λ is. cc, λ is. cc, λ is. cc)
bytes_fault TurnsSpent bytes fault = absurd fault

by_err : (r : Result (Option Request) EdgeError) (bytes : List ℕ) → Answers bytes r → IfErr r (λ e. (e ≢ Device) × (e ≢ EarlyEnd) × (e ≢ TurnsSpent))
by_err (Ok answer) bytes given = tt
by_err (Err e) bytes given = bytes_fault e bytes given

pub fed_fault : (old : Result (List ℕ) EdgeError) (r : Result (Option Request) EdgeError) (piece : List ℕ) → IsOk old
    → ((bytes : List ℕ) → old ≡ Ok bytes → Answers (bytes ++ piece) r) → IfErr r (λ e. (e ≢ Device) × (e ≢ EarlyEnd) × (e ≢ TurnsSpent))
fed_fault (Ok bytes) r piece ok answer = by_err r (bytes ++ piece) (answer bytes refl)
fed_fault (Err e) r piece ok answer = absurd (search (rules, ok))

-- ---- counting

pub one_more_read : (n r r1 r2 : ℕ) → ReadsMore r r1 n → r2 ≡ min (r1 + 1) (2 ^ 64 - 1) → ReadsMore r r2 (n + 1)
one_more_read zero r r1 r2 before one = rw (one, before) refl
one_more_read (suc n) r r1 r2 before one = grind (arith, before, one)

pub ok_still : (old g : Result (List ℕ) EdgeError) (r : Result (Option Request) EdgeError) (piece : List ℕ) → IsOk old
    → IfOk r (λ answer. answer ≡ None → g ≡ fed old piece) → IfOk r (λ answer. answer ≡ None → IsOk g)
ok_still old g (Ok answer) piece ok more = λ none. still_ok old g piece ok (more none)
ok_still old g (Err e) piece ok more = tt

pub unlike : (r : Result (Option Request) EdgeError) (fault : EdgeError) (P : Type 0) → IfErr r (λ e. e ≢ fault) → IfErr r (λ e. e ≡ fault → P)
unlike (Ok answer) fault P other = tt
unlike (Err e) fault P other = λ is. absurd (other is)

-- ---- what a read led to, as its answer says

pub part_of : (r : Result (Option Request) EdgeError) (g : Result (List ℕ) EdgeError) (start b : Option (List ℕ)) → r ≡ Ok None → TakesOn start b g r → TakesPart start b g
part_of r g start b is takes = rw is at takes

pub request_of : (r : Result (Option Request) EdgeError) (q : Request) (g : Result (List ℕ) EdgeError) (start b : Option (List ℕ)) → r ≡ Ok (Some q) → TakesOn start b g r
    → TakesRequest start b q
request_of r q g start b is takes = rw is at takes

pub fault_of : (r : Result (Option Request) EdgeError) (e : EdgeError) (g : Result (List ℕ) EdgeError) (start b : Option (List ℕ)) → r ≡ Err e → TakesOn start b g r
    → TakesFault start b e
fault_of r e g start b is takes = rw is at takes

pub spent_of : (g : Result (List ℕ) EdgeError) (start b : Option (List ℕ)) → TakesPart start b g → TakesFault start b TurnsSpent
spent_of (Ok bytes) start b part = (bytes, part.0, part.1)
spent_of (Err e) start b part = absurd part

-- a piece after which the request goes on
pub turn_on : (old g : Result (List ℕ) EdgeError) (r : Result (Option Request) EdgeError) (piece : List ℕ) (start a b : Option (List ℕ)) → r ≡ Ok None → IsOk old
    → Consumes a b piece → ((bytes : List ℕ) → old ≡ Ok bytes → Answers (bytes ++ piece) r) → IfOk r (λ answer. answer ≡ None → g ≡ fed old piece)
    → TakesPart start a old → IsOk g × TakesPart start b g
turn_on old g r piece start a b is ok taken answer more part =
    (rw is at (ok_still old g r piece ok more) refl, part_of r g start b is (fed_on old g r piece start a b taken answer more part))
