-- The bytes in which a head has to end.
use Rattle.std.proofs.Common.{◌≡◌, ◌≢◌, ◌≤◌, ◌<◌, ◌+◌, ◌-◌, ◌==◌, ℕ, Bool, true, false, List, [], ◌++◌, length, take, drop, min, refl, sym, ap, ◌∙◌, inl, inr, arith, rules, length-append, length-take, take-append-drop, append_assoc, append-nil, Result, Ok, Err}
use Rattle.std.specs.Prelude.{◌⊎◌, IfOk, IfErr}
use Rattle.std.proofs.lemmas.List.{take_all}
use Rattle.std.proofs.lemmas.List.Sums.{fold-append}
use Rattle.std.proofs.lemmas.List.Folds.{list_any-append}
use Rattle.std.proofs.Math.Seq.{take-append-add}
use Rattle.httparse.specs.Grammar.{RequestHead, ReadsRequest, MayBecomeRequest, print_request}
use Rattle.httparse.specs.Spans.{RequestOverflows}
use Rattle.http_edge.specs.Reading.{front, HasEmptyLine, HasBegun, EndsNoLine, MayBegin, HasNoHead, HasHead, StartsWith, LacksLength, NamesTooMuch, IsFault, IsUnfinished}
use Rattle.http_edge.specs.Head.{IsHeadOf, IsOpening, IsJudged, HasParsed, Begins, Decided}
use Rattle.http_edge.specs.LineState.{next, walk}
use Rattle.http_edge.specs.SoFar.{StepsTo, so_far, fed}
use Rattle.http_edge.specs.declared.head.Head.{Head}
use Rattle.http_edge.specs.declared.request.SoFar.{SoFar}
use Rattle.http_edge.specs.declared.request.Fed.{Fed}
use Rattle.http_edge.specs.declared.request.Fed.TheVariants.{More}
use Rattle.http_edge.specs.declared.head.LineState.{LineState}
use Rattle.http_edge.specs.declared.head.LineState.TheVariants.{Blank, Empty}
use Rattle.http_edge.specs.declared.error.EdgeError.{EdgeError}
use Rattle.http_edge.specs.declared.error.EdgeError.TheVariants.{Memory, Device, EarlyEnd, BadHead, HeadTooLong, BodyTooLong, NoLength, NotUtf8, TurnsSpent}
use Rattle.http_edge.proofs.LineLemmas.{finds_empty, empty_found, has_begun, none_begun}

-- ---- the walk

walk_more : (line : LineState) (bytes more : List ℕ) → line ≡ walk Blank bytes → walk Blank (bytes ++ more) ≡ walk line more
walk_more line bytes more is = rw is (fold-append next Blank bytes more)

-- ---- what was judged

whole : (bytes : List ℕ) → HasBegun bytes → MayBecomeRequest bytes → MayBegin bytes
whole bytes begun may = record { judged = bytes; rest = []; parts = sym (append-nil bytes); begun = begun; unended = refl; may = may }

none_ends : (rest piece : List ℕ) → EndsNoLine rest → EndsNoLine piece → EndsNoLine (rest ++ piece)
none_ends rest piece one two = rw (list_any-append (λ b. b == 10) rest piece, one) two

part : (bytes piece : List ℕ) → MayBegin bytes → EndsNoLine piece → MayBegin (bytes ++ piece)
part bytes piece m unended = record {
  judged = m.judged;
  rest = m.rest ++ piece;
  parts = rw m.parts (append_assoc m.judged m.rest piece);
  begun = m.begun;
  unended = none_ends m.rest piece m.unended unended;
  may = m.may;
}

-- nothing was to be judged
pub rests_judged : (before after : LineState) (piece bytes : List ℕ) → (after ≡ Blank) ⊎ ((before ≢ Blank) × EndsNoLine piece) → IsJudged before piece after bytes
rests_judged before after piece bytes (inl blank) = inl blank
rests_judged before after piece bytes (inr rests) = inr (inl rests)

still_may : (bytes piece : List ℕ) (line after : LineState) → line ≡ walk Blank bytes → after ≡ walk Blank (bytes ++ piece) → (HasBegun bytes → MayBegin bytes)
    → IsJudged line piece after (bytes ++ piece) → HasBegun (bytes ++ piece) → MayBegin (bytes ++ piece)
still_may bytes piece line after before is may (inl blank) begun = absurd (none_begun (bytes ++ piece) (sym is ∙ blank) begun)
still_may bytes piece line after before is may (inr (inl rests)) begun =
    part bytes piece (may (has_begun bytes (λ e. rests.0 (before ∙ e)))) rests.1
still_may bytes piece line after before is may (inr (inr judged)) begun = whole (bytes ++ piece) begun judged

walked_all : (bytes piece : List ℕ) (line after : LineState) (free : ℕ) → IsOpening line bytes → length piece < free
    → after ≡ walk line (take (min free (length piece)) piece) → after ≡ walk Blank (bytes ++ piece)
walked_all bytes piece line after free is short walked =
    let all : take (min free (length piece)) piece ≡ piece = take_all _ _ (grind (arith, short)) in
    walked ∙ rw all (sym (walk_more line bytes piece is.walked))

pub none_ended : (bytes piece : List ℕ) (line after : LineState) (free : ℕ) → IsOpening line bytes → length piece < free
    → after ≡ walk line (take (min free (length piece)) piece) → after ≢ Empty → ¬ HasEmptyLine (bytes ++ piece)
none_ended bytes piece line after free is short walked other h = other (walked_all bytes piece line after free is short walked ∙ finds_empty (bytes ++ piece) h)

-- all that came was walked over, and no empty line was found
pub unfinished : (bytes piece : List ℕ) (line after : LineState) (free : ℕ) → IsOpening line bytes → free ≡ 16384 - length bytes → length piece < free
    → after ≡ walk line (take (min free (length piece)) piece) → after ≢ Empty → IsJudged line piece after (bytes ++ piece) → IsUnfinished (bytes ++ piece)
unfinished bytes piece line after free is free_is short walked other judged =
    inl (
      grind (arith, length-append, short, free_is),
      none_ended bytes piece line after free is short walked other,
      still_may bytes piece line after is.walked (walked_all bytes piece line after free is short walked) is.may judged,
    )

pub still_opening : (bytes piece : List ℕ) (line after : LineState) (free : ℕ) → IsOpening line bytes → free ≡ 16384 - length bytes → length piece < free
    → after ≡ walk line (take (min free (length piece)) piece) → after ≢ Empty → IsJudged line piece after (bytes ++ piece) → IsOpening after (bytes ++ piece)
still_opening bytes piece line after free is free_is short walked other judged =
    record {
      walked = walked_all bytes piece line after free is short walked;
      unended = other;
      short = grind (arith, length-append, short, free_is);
      may = still_may bytes piece line after is.walked (walked_all bytes piece line after free is short walked) is.may judged;
    }

take_least : (free : ℕ) (piece : List ℕ) (n : ℕ) → n ≡ min free (length piece) → (free ≤ length piece) ⊎ (length piece ≤ free) → take n piece ≡ take free piece
take_least free piece n is (inl less) = ap (λ k. take k piece) (grind (arith, is, less))
take_least free piece n is (inr more) = take_all n piece (grind (arith, is, more)) ∙ sym (take_all free piece more)

take_min : (free : ℕ) (piece : List ℕ) → take (min free (length piece)) piece ≡ take free piece
take_min free piece = take_least free piece _ refl (grind arith)

-- the walk over the bytes in which a head has to end
pub walked_front : (bytes piece : List ℕ) (line after : LineState) (free : ℕ) → IsOpening line bytes → free ≡ 16384 - length bytes
    → after ≡ walk line (take (min free (length piece)) piece) → after ≡ walk Blank (front (bytes ++ piece))
walked_front bytes piece line after free is free_is walked =
    let sum : 16384 ≡ length bytes + free = grind (arith, free_is, is.short) in
    let cut : front (bytes ++ piece) ≡ bytes ++ take free piece = ap (λ n. take n (bytes ++ piece)) sum ∙ take-append-add bytes piece free in
    walked ∙ rw (take_min free piece) (rw cut (sym (walk_more line bytes (take free piece) is.walked)))

-- ---- what was found in them

lifted : (bytes : List ℕ) (h : RequestHead) (rest : List ℕ) → ReadsRequest (front bytes) h rest → length h.fields ≤ 100 → StartsWith bytes h (rest ++ drop 16384 bytes)
lifted bytes h rest reads few = record {
  reads = (reads.0, sym (take-append-drop 16384 bytes) ∙ rw reads.1 (append_assoc (print_request h) rest (drop 16384 bytes)));
  few = few;
  short = grind (arith, length-take 16384 bytes, ap length reads.1, length-append (print_request h) rest);
}

pub begins_front : (head : Head) (bytes : List ℕ) → HasParsed (front bytes) (λ h. IsHeadOf head h) → Begins head bytes
begins_front head bytes p = (p.0, p.1 ++ drop 16384 bytes, lifted bytes p.0 p.1 p.2 p.3, p.4)

has_head : (P : RequestHead → Type 0) (bytes : List ℕ) → HasParsed (front bytes) P → HasHead (λ h rest. P h) bytes
has_head P bytes p = (p.0, p.1 ++ drop 16384 bytes, lifted bytes p.0 p.1 p.2 p.3, p.4)

bad_head : (ended : Bool) (bytes : List ℕ) → Decided ended bytes → (ended ≡ false → RequestOverflows 100 (front bytes))
    → HasEmptyLine (front bytes) ⊎ RequestOverflows 100 (front bytes)
bad_head true bytes decided over = inl decided
bad_head false bytes decided over = inr (over refl)

too_long_head : (ended : Bool) (bytes : List ℕ) → Decided ended bytes → (ended ≡ false) × MayBecomeRequest (front bytes) → IsFault HeadTooLong bytes
too_long_head true bytes decided long = absurd (search (rules, long.0))
too_long_head false bytes decided long = (decided.0, decided.1, long.1)

-- the bytes in which a head has to end, as they are cut off
pub cut_front : (bytes : List ℕ) → take (min 16384 (length bytes)) bytes ≡ front bytes
cut_front bytes = take_min 16384 bytes

decided_by : (ended : Bool) (line : LineState) (bytes : List ℕ) → line ≡ walk Blank (front bytes) → (ended ≡ true → line ≡ Empty) → (ended ≡ false → line ≢ Empty)
    → (ended ≡ false → 16384 ≤ length bytes) → Decided ended bytes
decided_by true line bytes walked empty other many = empty_found (front bytes) (sym walked ∙ empty refl)
decided_by false line bytes walked empty other many = (many refl, λ h. other refl (walked ∙ finds_empty (front bytes) h))

pub decided : (ended : Bool) (bytes piece : List ℕ) (line after : LineState) (free : ℕ) → IsOpening line bytes → free ≡ 16384 - length bytes
    → after ≡ walk line (take (min free (length piece)) piece) → (ended ≡ true → after ≡ Empty) → (ended ≡ false → after ≢ Empty)
    → (ended ≡ false → free ≤ length piece) → Decided ended (bytes ++ piece)
decided ended bytes piece line after free is free_is walked empty other many =
    decided_by ended after (bytes ++ piece) (walked_front bytes piece line after free is free_is walked) empty other
    (λ e. grind (arith, length-append bytes piece, many e, free_is))

pub head_fault : (e : EdgeError) (ended : Bool) (bytes : List ℕ) → Decided ended bytes
    → (e ≡ BadHead → HasNoHead (front bytes) × (ended ≡ false → RequestOverflows 100 (front bytes)))
    → (e ≡ HeadTooLong → (ended ≡ false) × MayBecomeRequest (front bytes))
    → (e ≡ NoLength → HasParsed (front bytes) LacksLength) → (e ≡ BodyTooLong → HasParsed (front bytes) NamesTooMuch)
    → ((e ≡ Memory) ⊎ (e ≡ BadHead) ⊎ (e ≡ HeadTooLong) ⊎ (e ≡ NoLength) ⊎ (e ≡ BodyTooLong)) → IsFault e bytes
head_fault Memory ended bytes decided bad long unnamed much kinds = tt
head_fault Device ended bytes decided bad long unnamed much kinds = absurd (grind (rules, kinds))
head_fault EarlyEnd ended bytes decided bad long unnamed much kinds = absurd (grind (rules, kinds))
head_fault BadHead ended bytes decided bad long unnamed much kinds =
    let b = bad refl in
    (b.0, bad_head ended bytes decided b.1)
head_fault HeadTooLong ended bytes decided bad long unnamed much kinds = too_long_head ended bytes decided (long refl)
head_fault BodyTooLong ended bytes decided bad long unnamed much kinds = has_head NamesTooMuch bytes (much refl)
head_fault NoLength ended bytes decided bad long unnamed much kinds = has_head LacksLength bytes (unnamed refl)
head_fault NotUtf8 ended bytes decided bad long unnamed much kinds = absurd (grind (rules, kinds))
head_fault TurnsSpent ended bytes decided bad long unnamed much kinds = absurd (grind (rules, kinds))

-- no head is at the front of bytes that can't begin one
pub cant_begin : (bytes : List ℕ) → length bytes < 16384 → RequestOverflows 100 bytes → IsFault BadHead bytes
cant_begin bytes short over =
    let all : front bytes ≡ bytes = take_all 16384 bytes (grind (arith, short)) in
    rw all ((λ h rest reads. over [] h rest (rw (append-nil bytes) reads)), inr over)

-- ---- one piece more

pub more_fed : (old : Result (List ℕ) EdgeError) (come : SoFar) (r : Result Fed EdgeError) (piece : List ℕ) → r ≡ Ok (More come)
    → ((bytes : List ℕ) → old ≡ Ok bytes → StepsTo (bytes ++ piece) r) → ((fault : EdgeError) → old ≡ Err fault → r ≡ Err fault) → so_far come ≡ fed old piece
more_fed (Ok bytes) come r piece is step failed = (rw is at (step bytes refl)).1
more_fed (Err e) come r piece is step failed = let f = sym is ∙ failed e refl in cc

-- ---- what is found in them is found in all of them

pub begins_ok : (r : Result Head EdgeError) (bytes cut : List ℕ) → cut ≡ front bytes → IfOk r (λ head. HasParsed cut (λ h. IsHeadOf head h)) → IfOk r (λ head. Begins head bytes)
begins_ok (Ok head) bytes cut is p = begins_front head bytes (rw is at p)
begins_ok (Err e) bytes cut is p = tt

pub fault_err : (r : Result Head EdgeError) (ended : Bool) (bytes cut : List ℕ) → cut ≡ front bytes → Decided ended bytes
    → IfErr r (λ e. e ≡ BadHead → HasNoHead cut × (ended ≡ false → RequestOverflows 100 cut))
    → IfErr r (λ e. e ≡ HeadTooLong → (ended ≡ false) × MayBecomeRequest cut)
    → IfErr r (λ e. e ≡ NoLength → HasParsed cut LacksLength) → IfErr r (λ e. e ≡ BodyTooLong → HasParsed cut NamesTooMuch)
    → IfErr r (λ e. (e ≡ Memory) ⊎ (e ≡ BadHead) ⊎ (e ≡ HeadTooLong) ⊎ (e ≡ NoLength) ⊎ (e ≡ BodyTooLong)) → IfErr r (λ e. IsFault e bytes)
fault_err (Ok head) ended bytes cut is decided bad long unnamed much kinds = tt
fault_err (Err e) ended bytes cut is decided bad long unnamed much kinds = head_fault e ended bytes decided (rw is at bad) (rw is at long) (rw is at unnamed) (rw is at much) kinds
