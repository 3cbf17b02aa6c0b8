-- The walk over a head's lines finds the empty one.
use Rattle.std.proofs.Common.{◌≡◌, ◌≢◌, ◌==◌, ℕ, Bool, true, false, List, [], ◌∷◌, ◌++◌, refl, ap, ◌∙◌, append_assoc, append-nil, arith, rules, cond}
use Rattle.std.specs.Prelude.{◌||◌, ⊤}
use Rattle.std.specs.List.{list_any}
use Rattle.std.proofs.lemmas.Bool.Decides.{nat_tests}
use Rattle.std.proofs.lemmas.List.Sums.{fold-append}
use Rattle.std.proofs.lemmas.List.Folds.{list_any-append}
use Rattle.httparse.specs.Grammar.{LineEnd, crlf, lf, print_end}
use Rattle.http_edge.specs.Reading.{is_text, HasEmptyLine, HasBegun}
use Rattle.http_edge.specs.LineState.{next, walk}
use Rattle.http_edge.specs.declared.head.LineState.{LineState}
use Rattle.http_edge.specs.declared.head.LineState.TheVariants.{Blank, Text, Ended, Return, Empty}

-- ---- an empty line is found

-- an empty line that was found stays so
stays : (bytes : List ℕ) → walk Empty bytes ≡ Empty
stays [] = refl
stays (b ∷ bytes) = stays bytes

-- the walk has left the empty lines at the start
abbrev begun : LineState → Bool
begun Blank = false
begun Text = true
begun Ended = true
begun Return = true
begun Empty = true

from_text : (t : Bool) → begun (cond t Ended Text) ≡ true
from_text true = refl
from_text false = refl

from_ended : (t u : Bool) → begun (cond t Empty (cond u Return Text)) ≡ true
from_ended true u = refl
from_ended false true = refl
from_ended false false = refl

from_return : (t : Bool) → begun (cond t Empty Text) ≡ true
from_return true = refl
from_return false = refl

begun_next : (line : LineState) (b : ℕ) → begun line ≡ true → begun (next line b) ≡ true
begun_next Blank b on = absurd (search rules)
begun_next Text b on = from_text (b == 10)
begun_next Ended b on = from_ended (b == 10) (b == 13)
begun_next Return b on = from_return (b == 10)
begun_next Empty b on = refl

begun_walk : (line : LineState) (bytes : List ℕ) → begun line ≡ true → begun (walk line bytes) ≡ true
begun_walk line [] on = on
begun_walk line (b ∷ bytes) on = begun_walk (next line b) bytes (begun_next line b on)

begins_by : (t : Bool) (b : ℕ) (bytes : List ℕ) → is_text b ≡ t → list_any is_text (b ∷ bytes) ≡ true
    → (list_any is_text bytes ≡ true → begun (walk Blank bytes) ≡ true) → begun (walk (cond t Text Blank) bytes) ≡ true
begins_by true b bytes is any later = begun_walk Text bytes refl
begins_by false b bytes is any later = later (rw is at any)

-- a byte that ends no line begins it
begins : (bytes : List ℕ) → list_any is_text bytes ≡ true → begun (walk Blank bytes) ≡ true
begins [] any = cc
begins (b ∷ bytes) any = begins_by (is_text b) b bytes refl any (begins bytes)

empty_next : (line : LineState) (end : LineEnd) (rest : List ℕ) → begun line ≡ true → walk line ((10 ∷ print_end end) ++ rest) ≡ Empty
empty_next Blank end rest on = cc
empty_next Text crlf rest on = stays rest
empty_next Text lf rest on = stays rest
empty_next Ended crlf rest on = stays rest
empty_next Ended lf rest on = stays rest
empty_next Return crlf rest on = stays rest
empty_next Return lf rest on = stays rest
empty_next Empty crlf rest on = stays rest
empty_next Empty lf rest on = stays rest

pub finds_empty : (bytes : List ℕ) → HasEmptyLine bytes → walk Blank bytes ≡ Empty
finds_empty bytes h =
    rw h.3 (fold-append next Blank h.0 ((10 ∷ print_end h.1) ++ h.2) ∙ empty_next (walk Blank h.0) h.1 h.2 (begins h.0 h.4))

-- ---- and nothing else is

-- what a walk says of the bytes behind it
abbrev After : LineState → List ℕ → Type 0
After Blank p = ⊤
After Text p = list_any is_text p ≡ true
After Ended p = (lines : List ℕ) × (p ≡ lines ++ 10 ∷ []) × (list_any is_text lines ≡ true)
After Return p = (lines : List ℕ) × (p ≡ lines ++ 10 ∷ 13 ∷ []) × (list_any is_text lines ≡ true)
After Empty p = HasEmptyLine p

or_true : (t : Bool) → (t || true) ≡ true
or_true true = refl
or_true false = refl

any_last : (p : List ℕ) (b : ℕ) → is_text b ≡ true → list_any is_text (p ++ b ∷ []) ≡ true
any_last p b is = rw (list_any-append is_text p (b ∷ []), is) (or_true (list_any is_text p))

any_more : (p q : List ℕ) → list_any is_text p ≡ true → list_any is_text (p ++ q) ≡ true
any_more p q any = rw (list_any-append is_text p q, any) refl

is_byte : (b n : ℕ) → (b == n) ≡ true → b ≡ n
is_byte b n same = grind (arith, nat_tests, same)

blank_next : (t : Bool) (p : List ℕ) (b : ℕ) → is_text b ≡ t → After (cond t Text Blank) (p ++ b ∷ [])
blank_next true p b is = any_last p b is
blank_next false p b is = tt

text_next : (t : Bool) (p : List ℕ) (b : ℕ) → (b == 10) ≡ t → list_any is_text p ≡ true → After (cond t Ended Text) (p ++ b ∷ [])
text_next true p b is any = (p, rw (is_byte b 10 is) refl, any)
text_next false p b is any = any_more p (b ∷ []) any

ended_next : (t u : Bool) (p lines : List ℕ) (b : ℕ) → (b == 10) ≡ t → (b == 13) ≡ u → p ≡ lines ++ 10 ∷ [] → list_any is_text lines ≡ true
    → After (cond t Empty (cond u Return Text)) (p ++ b ∷ [])
ended_next true u p lines b is is2 e any = (lines, lf, [], rw (is_byte b 10 is, e) (append_assoc lines (10 ∷ []) (10 ∷ [])), any)
ended_next false true p lines b is is2 e any = (lines, rw (is_byte b 13 is2, e) (append_assoc lines (10 ∷ []) (13 ∷ [])), any)
ended_next false false p lines b is is2 e any = rw e (any_more (lines ++ 10 ∷ []) (b ∷ []) (any_more lines (10 ∷ []) any))

return_next : (t : Bool) (p lines : List ℕ) (b : ℕ) → (b == 10) ≡ t → p ≡ lines ++ 10 ∷ 13 ∷ [] → list_any is_text lines ≡ true
    → After (cond t Empty Text) (p ++ b ∷ [])
return_next true p lines b is e any = (lines, crlf, [], rw (is_byte b 10 is, e) (append_assoc lines (10 ∷ 13 ∷ []) (10 ∷ [])), any)
return_next false p lines b is e any = rw e (any_more (lines ++ 10 ∷ 13 ∷ []) (b ∷ []) (any_more lines (10 ∷ 13 ∷ []) any))

pub more_after : (bytes more : List ℕ) → HasEmptyLine bytes → HasEmptyLine (bytes ++ more)
more_after bytes more h = (
  h.0,
  h.1,
  h.2 ++ more,
  rw h.3 (append_assoc h.0 ((10 ∷ print_end h.1) ++ h.2) more ∙ ap (λ xs. h.0 ++ xs) (append_assoc (10 ∷ print_end h.1) h.2 more)),
  h.4,
)

after_next : (line : LineState) (p : List ℕ) (b : ℕ) → After line p → After (next line b) (p ++ b ∷ [])
after_next Blank p b h = blank_next (is_text b) p b refl
after_next Text p b h = text_next (b == 10) p b refl h
after_next Ended p b h = ended_next (b == 10) (b == 13) p h.0 b refl refl h.1 h.2
after_next Return p b h = return_next (b == 10) p h.0 b refl h.1 h.2
after_next Empty p b h = more_after p (b ∷ []) h

after_walk : (line : LineState) (p bytes : List ℕ) → After line p → After (walk line bytes) (p ++ bytes)
after_walk line p [] h = rw (append-nil p) h
after_walk line p (b ∷ bytes) h = rw (← append_assoc p (b ∷ []) bytes) (after_walk (next line b) (p ++ b ∷ []) bytes (after_next line p b h))

text_after : (line : LineState) (p : List ℕ) → After line p → line ≢ Blank → HasBegun p
text_after Blank p h other = absurd (other refl)
text_after Text p h other = h
text_after Ended p h other = rw h.1 (any_more h.0 (10 ∷ []) h.2)
text_after Return p h other = rw h.1 (any_more h.0 (10 ∷ 13 ∷ []) h.2)
text_after Empty p h other = rw h.3 (any_more h.0 ((10 ∷ print_end h.1) ++ h.2) h.4)

-- the walk has left the empty lines just where the start line has begun
pub has_begun : (bytes : List ℕ) → walk Blank bytes ≢ Blank → HasBegun bytes
has_begun bytes other = text_after (walk Blank bytes) bytes (after_walk Blank [] bytes tt) other

pub none_begun : (bytes : List ℕ) → walk Blank bytes ≡ Blank → ¬ HasBegun bytes
none_begun bytes is any = let on : begun Blank ≡ true = rw is at (begins bytes any) in cc

pub empty_found : (bytes : List ℕ) → walk Blank bytes ≡ Empty → HasEmptyLine bytes
empty_found bytes e = rw e at (after_walk Blank [] bytes tt)
