-- The parts of a header: what is spelled so is read so, and what is read is spelled so.
use Rattle.std.proofs.Common.{◌≡◌, ◌≢◌, ◌⊎◌, ℕ, zero, suc, ◌+◌, ◌<◌, ◌≤◌, List, [], ◌∷◌, ◌++◌, Bool, true, false, cond, length, take, drop, get_or, Option, Some, None, Result, Ok, Err, refl, sym, ◌∙◌, ap, inl, inr, arith, add-one, one-add}
use Rattle.std.specs.Prelude.{slice_index, nat_lt, nat_le, ◌==◌, ◌||◌, ◌&&◌, not, codes, MatchBool, IsTrue}
use Rattle.std.proofs.lemmas.Grind.{common_steps}
use Rattle.std.proofs.lemmas.Bool.Decides.{nat_tests}
use Rattle.std.proofs.lemmas.List.{take_at, take_all, drop_all, append_assoc, append-nil, take-append-drop}
use Rattle.std.specs.Char.{is_ascii_digit}
use Rattle.std.specs.List.{prefix_len, list_any, before_first, after_first}
use Rattle.sio_wire.specs.declared.header.Kind.{Kind}
use Rattle.sio_wire.specs.declared.header.Kind.TheVariants.{Connect, Disconnect, Event, Ack, ConnectError, BinaryEvent, BinaryAck}
use Rattle.sio_wire.specs.declared.error.SioError.{SioError}
use Rattle.sio_wire.specs.declared.error.SioError.TheVariants.{BadKind, BadCount, BadId, BadShape, TooMany}
use Rattle.sio_wire.specs.Kinds.{digit_of, is_binary}
use Rattle.sio_wire.specs.Scan.{◌>>=◌, kind_at, count_at, space_at, id_at, digit_count, number_in_front}
use Rattle.sio_wire.specs.Header.{Writes, CountPart, IsSpace, SpacePart, IdPart, is_comma, is_control}
use Rattle.std.specs.Str.Parse.{AllDigits}
use Rattle.sio_wire.specs.Faults.{HasNoKind}
use Rattle.sio_wire.proofs.DigitsLemmas.{AllDigits-front, digit_count-append, digit_count-at_least, Writes-front, digits_stop}
use Rattle.std.proofs.lemmas.List.Folds.{length-prefix_len}

-- a part that was read
abbrev pub given : {A : Type 0} → A → Result A SioError
given x = Ok x

pub given_is : {A : Type 0} (x y : A) → given x ≡ Ok y → y ≡ x
given_is x y h = cc

pair_is : {A B : Type 0} (a c : A) (b d : B) → given {A = A × B} (a, b) ≡ Ok (c, d) → (c ≡ a) × (d ≡ b)
pair_is {A} {B} a c b d h = let e = given_is {A = A × B} (a, b) (c, d) h in (ap (λ (p : A × B). p.0) e, ap (λ (p : A × B). p.1) e)

abbrev refused : {A : Type 0} → SioError → Result A SioError
refused e = Err e

err_is : {B : Type 0} (d e : SioError) → refused {A = B} d ≡ Err e → d ≡ e
err_is d e h = cc

pub bind_ok : {A B : Type 0} (r : Result A SioError) (f : A → Result B SioError) (y : B) → (r >>= f) ≡ Ok y → (x : A) × (r ≡ Ok x) × (f x ≡ Ok y)
bind_ok (Ok x) f y h = (x, refl, h)
bind_ok (Err e) f y h = absurd cc

pub bind_err : {A B : Type 0} (r : Result A SioError) (f : A → Result B SioError) (e : SioError) → (r >>= f) ≡ Err e
    → (r ≡ Err e) ⊎ ((x : A) × (r ≡ Ok x) × (f x ≡ Err e))
bind_err (Ok x) f e h = inr (x, refl, h)
bind_err (Err d) f e h = let same : d ≡ e = err_is d e h in inl (ap (λ (x : SioError). refused x) same)

answered : {A : Type 0} (r : Result A SioError) → ((x : A) × (r ≡ Ok x)) ⊎ ((e : SioError) × (r ≡ Err e))
answered (Ok x) = inl (x, refl)
answered (Err e) = inr (e, refl)

chosen : {A : Type 0} (b : Bool) (x y z : A) → cond b x y ≡ z → ((b ≡ true) × (x ≡ z)) ⊎ ((b ≡ false) × (y ≡ z))
chosen true x y z h = inl (refl, h)
chosen false x y z h = inr (refl, h)

-- ---- the type

pub kind_at-takes : (t : List ℕ) (x : Kind × List ℕ) → kind_at t ≡ Ok x → t ≡ digit_of x.0 ∷ x.1
unfolding kind_at
kind_at-takes [] x h = absurd cc
kind_at-takes (d ∷ r) x h = grind (arith, common_steps, nat_tests, h)

pub kind_at-again : (k : Kind) (r : List ℕ) → kind_at (digit_of k ∷ r) ≡ Ok (k, r)
unfolding kind_at
kind_at-again Connect r = refl
kind_at-again Disconnect r = refl
kind_at-again Event r = refl
kind_at-again Ack r = refl
kind_at-again ConnectError r = refl
kind_at-again BinaryEvent r = refl
kind_at-again BinaryAck r = refl

no_kind : (t : List ℕ) (e : SioError) → kind_at t ≡ Err e → e ≡ BadKind
unfolding kind_at
no_kind [] e h = cc
no_kind (d ∷ r) e h = grind (arith, common_steps, nat_tests, h)

pub kind_at-fault : (t : List ℕ) (e : SioError) → kind_at t ≡ Err e → (e ≡ BadKind) × HasNoKind t
kind_at-fault t e h = (no_kind t e h, λ kind rest is. let read = kind_at-again kind rest in cc (is, read, h))

pub kind_at-no_kind : (t : List ℕ) → HasNoKind t → kind_at t ≡ Err BadKind
kind_at-no_kind t none = elim (answered (kind_at t)) [
  | inl x ↦ absurd (none x.0.0 x.0.1 (kind_at-takes t x.0 x.1))
  | inr x ↦ rw (← (kind_at-fault t x.0 x.1).0) x.1
]

-- ---- cutting a list

drop_at : (ds r : List ℕ) → drop (length ds) (ds ++ r) ≡ r
drop_at [] r = refl
drop_at (d ∷ ds) r = drop_at ds r

take_front : (ds r : List ℕ) → take (length ds) (ds ++ r) ≡ ds
take_front ds r = take_at ds r (length ds) refl

get_past : (ds r : List ℕ) (c : ℕ) → get_or (ds ++ c ∷ r) (length ds) 0 ≡ c
get_past [] r c = refl
get_past (d ∷ ds) r c = get_past ds r c

drop_past : (ds r : List ℕ) (c : ℕ) → drop (length ds + 1) (ds ++ c ∷ r) ≡ r
drop_past [] r c = refl
drop_past (d ∷ ds) r c = rw add-one (rw add-one at (drop_past ds r c))

-- cut at an element that is not 0
cut_there : (t : List ℕ) (d c : ℕ) → 0 < c → slice_index t d ≡ c → t ≡ (take d t ++ c ∷ []) ++ drop (d + 1) t
cut_there [] d c some h = absurd (omega (arith, h))
cut_there (x ∷ xs) zero c some h = ap (λ (y : ℕ). y ∷ xs) h
cut_there (x ∷ xs) (suc d) c some h = rw add-one (ap (λ (l : List ℕ). x ∷ l) (rw add-one at (cut_there xs d c some h)))

-- ---- the id

pub id_at-again : (id : Option ℕ) (part r : List ℕ) → IdPart id part → is_ascii_digit (slice_index r 0) ≡ false → id_at (part ++ r) ≡ Ok (id, r)
unfolding id_at
id_at-again None part r h stop = rw h (let none = digit_count-append [] r tt stop in rw none)
id_at-again (Some n) part r h stop =
    rw (digit_count-append part r h.each stop) (grind (arith, common_steps, nat_tests, h.some, h.few, h.value, take_front part r, drop_at part r))

-- the digits of the id, and a rest that begins with no digit
abbrev TakesId : List ℕ → Option ℕ → List ℕ → Type 0
TakesId t id r = (part : List ℕ) × (t ≡ part ++ r) × IdPart id part × (is_ascii_digit (slice_index r 0) ≡ false)

no_id : (t : List ℕ) (id : Option ℕ) (r : List ℕ) → digit_count t ≡ 0 → given {A = Option ℕ × List ℕ} (None, t) ≡ Ok (id, r) → TakesId t id r
no_id t id r none h =
    let is : id ≡ None = (pair_is _ _ _ _ h).0 in
    let same : r ≡ t = (pair_is _ _ _ _ h).1 in
    ([], sym same, rw is refl, rw same (rw none at (digits_stop t)))

some_id : (t : List ℕ) (id : Option ℕ) (r : List ℕ) → 0 < digit_count t → digit_count t ≤ 15
    → given {A = Option ℕ × List ℕ} (Some (number_in_front t), drop (digit_count t) t) ≡ Ok (id, r) → TakesId t id r
some_id t id r some few h =
    let is : id ≡ Some (number_in_front t) = (pair_is _ _ _ _ h).0 in
    let same : r ≡ drop (digit_count t) t = (pair_is _ _ _ _ h).1 in
    (take (digit_count t) t, rw same (sym (take-append-drop (digit_count t) t)), rw is (Writes-front t some few), rw same (digits_stop t))

pub id_at-takes : (t : List ℕ) (id : Option ℕ) (r : List ℕ) → id_at t ≡ Ok (id, r) → TakesId t id r
unfolding id_at
id_at-takes t id r h = elim (chosen (digit_count t == 0) _ _ _ h) [
  | inl a ↦ no_id t id r (grind (arith, nat_tests, a.0)) a.1
  | inr b ↦ elim (chosen (nat_lt 15 (digit_count t)) _ _ _ b.1) [
    | inl c ↦ absurd (cc (c.1))
    | inr d ↦ some_id t id r (grind (arith, nat_tests, b.0)) (grind (arith, nat_tests, d.0)) d.1
  ]
]

-- over fifteen digits in front
abbrev pub BeginsTooLong : List ℕ → Type 0
BeginsTooLong t = (digits : List ℕ) × (more : List ℕ) × (t ≡ digits ++ more) × AllDigits 10 digits × (15 < length digits)

long_front : (t : List ℕ) → 15 < digit_count t → BeginsTooLong t
long_front t h = (
  take (digit_count t) t,
  drop (digit_count t) t,
  sym (take-append-drop (digit_count t) t),
  AllDigits-front t,
  rw (length-prefix_len is_ascii_digit t) h,
)

pub id_at-fault : (t : List ℕ) (e : SioError) → id_at t ≡ Err e → (e ≡ BadId) × BeginsTooLong t
unfolding id_at
id_at-fault t e h = elim (chosen (digit_count t == 0) _ _ _ h) [
  | inl a ↦ absurd (cc (a.1))
  | inr b ↦ elim (chosen (nat_lt 15 (digit_count t)) _ _ _ b.1) [
    | inl c ↦ (cc (c.1), long_front t (grind (arith, nat_tests, c.0)))
    | inr d ↦ absurd (cc (d.1))
  ]
]

pub id_at-too_long : (digits more : List ℕ) → AllDigits 10 digits → 15 < length digits → id_at (digits ++ more) ≡ Err BadId
unfolding id_at
id_at-too_long digits more each long =
    let many = digit_count-at_least digits more each in
    let over : 15 < digit_count (digits ++ more) = omega (arith, many) in
    grind (arith, common_steps, nat_tests, over)

-- ---- the count

count_again_at : (k : Kind) (n : ℕ) (part r : List ℕ) (b : Bool) → is_binary k ≡ b
    → MatchBool b ((digits : List ℕ) × Writes n digits × (n ≤ 32) × (part ≡ digits ++ 45 ∷ [])) ((part ≡ []) × (n ≡ 0)) → count_at k (part ++ r) ≡ Ok (n, r)
unfolding count_at
count_again_at k n part r false e h = rw (e, h.0, h.1)
count_again_at k n part r true e h =
    let counted = digit_count-append h.0 (45 ∷ r) h.1.each refl in
    rw (e, h.3, append_assoc, counted) (grind (arith, common_steps, nat_tests, h.1.some, h.1.few, h.1.value, h.2, take_front h.0 (45 ∷ r), get_past h.0 r 45, drop_past h.0 r 45))

pub count_at-again : (k : Kind) (n : ℕ) (part r : List ℕ) → CountPart k n part → count_at k (part ++ r) ≡ Ok (n, r)
count_at-again k n part r h = count_again_at k n part r (is_binary k) refl h

-- the text of the count, and a rest
abbrev TakesCount : Kind → List ℕ → ℕ → List ℕ → Type 0
TakesCount k t n r = (part : List ℕ) × (t ≡ part ++ r) × CountPart k n part

no_count : (k : Kind) (t : List ℕ) (n : ℕ) (r : List ℕ) → is_binary k ≡ false → given {A = ℕ × List ℕ} (0, t) ≡ Ok (n, r) → TakesCount k t n r
no_count k t n r e h =
    let is : n ≡ 0 = (pair_is _ _ _ _ h).0 in
    let same : r ≡ t = (pair_is _ _ _ _ h).1 in
    ([], sym same, rw e (refl, is))

some_count : (k : Kind) (t : List ℕ) (n : ℕ) (r : List ℕ) → is_binary k ≡ true → 0 < digit_count t → digit_count t ≤ 15 → slice_index t (digit_count t) ≡ 45
    → number_in_front t ≤ 32 → given {A = ℕ × List ℕ} (number_in_front t, drop (digit_count t + 1) t) ≡ Ok (n, r) → TakesCount k t n r
some_count k t n r e some few dash low h =
    let is : n ≡ number_in_front t = (pair_is _ _ _ _ h).0 in
    let same : r ≡ drop (digit_count t + 1) t = (pair_is _ _ _ _ h).1 in (
      take (digit_count t) t ++ 45 ∷ [],
      rw same (cut_there t (digit_count t) 45 (omega arith) dash),
      rw e (take (digit_count t) t, rw is (Writes-front t some few), rw is low, refl),
    )

-- what the test of the count says
counted : (d c : ℕ) → (nat_lt 0 d && nat_le d 15 && c == 45) ≡ true → (0 < d) × (d ≤ 15) × (c ≡ 45)
counted d c h = (grind (arith, nat_tests, h), grind (arith, nat_tests, h), grind (arith, nat_tests, h))

not_true : (b : Bool) → not b ≡ true → b ≡ false
not_true true h = absurd cc
not_true false h = refl

not_not : (b : Bool) → not b ≡ false → b ≡ true
not_not true h = refl
not_not false h = absurd cc

pub count_at-takes : (k : Kind) (t : List ℕ) (n : ℕ) (r : List ℕ) → count_at k t ≡ Ok (n, r) → TakesCount k t n r
unfolding count_at
count_at-takes k t n r h = elim (chosen (not (is_binary k)) _ _ _ h) [
  | inl a ↦ no_count k t n r (not_true _ a.0) a.1
  | inr b ↦ elim (chosen (not (nat_lt 0 (digit_count t) && nat_le (digit_count t) 15 && slice_index t (digit_count t) == 45)) _ _ _ b.1) [
    | inl c ↦ absurd (cc (c.1))
    | inr d ↦ elim (chosen (nat_lt 32 (number_in_front t)) _ _ _ d.1) [
      | inl e ↦ absurd (cc (e.1))
      | inr f ↦
          let tests = counted (digit_count t) (slice_index t (digit_count t)) (not_not _ d.0) in
          some_count k t n r (not_not _ b.0) tests.0 tests.1 tests.2 (grind (arith, nat_tests, f.0)) f.1
    ]
  ]
]

-- no count is in front, or one over 32
abbrev pub BeginsNoCount : List ℕ → Type 0
BeginsNoCount t = (n : ℕ) (digits more : List ℕ) → Writes n digits → t ≢ digits ++ 45 ∷ more

abbrev pub BeginsTooMany : List ℕ → Type 0
BeginsTooMany t = (n : ℕ) × (digits : List ℕ) × (more : List ℕ) × (t ≡ digits ++ 45 ∷ more) × Writes n digits × (32 < n)

abbrev has_count : List ℕ → Bool
has_count t = nat_lt 0 (digit_count t) && nat_le (digit_count t) 15 && slice_index t (digit_count t) == 45

has_count-true : (n : ℕ) (digits more : List ℕ) → Writes n digits → has_count (digits ++ 45 ∷ more) ≡ true
has_count-true n digits more w =
    rw (digit_count-append digits (45 ∷ more) w.each refl) (grind (arith, common_steps, nat_tests, w.some, w.few, get_past digits more 45))

no_count_in : (t : List ℕ) → has_count t ≡ false → BeginsNoCount t
no_count_in t h = λ n digits more w is. let test = has_count-true n digits more w in cc (is, test, h)

too_many_in : (t : List ℕ) → has_count t ≡ true → 32 < number_in_front t → BeginsTooMany t
too_many_in t h over =
    let tests = counted (digit_count t) (slice_index t (digit_count t)) h in (
      number_in_front t,
      take (digit_count t) t,
      drop (digit_count t + 1) t,
      cut_there t (digit_count t) 45 (omega arith) tests.2 ∙ append_assoc (take (digit_count t) t) (45 ∷ []) (drop (digit_count t + 1) t),
      Writes-front t tests.0 tests.1,
      over,
    )

pub count_at-fault : (k : Kind) (t : List ℕ) (e : SioError) → count_at k t ≡ Err e
    → IsTrue (is_binary k) × (((e ≡ BadCount) × BeginsNoCount t) ⊎ ((e ≡ TooMany) × BeginsTooMany t))
unfolding count_at
count_at-fault k t e h = elim (chosen (not (is_binary k)) _ _ _ h) [
  | inl a ↦ absurd (cc (a.1))
  | inr b ↦ (
    not_not _ b.0,
    elim (chosen (not (has_count t)) _ _ _ b.1) [
      | inl c ↦ inl (cc (c.1), no_count_in t (not_true _ c.0))
      | inr d ↦ elim (chosen (nat_lt 32 (number_in_front t)) _ _ _ d.1) [
        | inl f ↦ inr (cc (f.1), too_many_in t (not_not _ d.0) (grind (arith, nat_tests, f.0)))
        | inr g ↦ absurd (cc (g.1))
      ]
    ],
  )
]

pub count_at-too_many : (k : Kind) (n : ℕ) (digits more : List ℕ) → IsTrue (is_binary k) → Writes n digits → 32 < n → count_at k (digits ++ 45 ∷ more) ≡ Err TooMany
unfolding count_at
count_at-too_many k n digits more binary w over =
    rw (binary, digit_count-append digits (45 ∷ more) w.each refl)
    (grind (arith, common_steps, nat_tests, w.some, w.few, w.value, over, take_front digits (45 ∷ more), get_past digits more 45))

binary_part : (b : Bool) (n : ℕ) (part : List ℕ) → b ≡ true
    → MatchBool b ((digits : List ℕ) × Writes n digits × (n ≤ 32) × (part ≡ digits ++ 45 ∷ [])) ((part ≡ []) × (n ≡ 0))
    → (digits : List ℕ) × Writes n digits × (n ≤ 32) × (part ≡ digits ++ 45 ∷ [])
binary_part true n part e h = h
binary_part false n part e h = absurd cc

pub count_at-no_count : (k : Kind) (t : List ℕ) → IsTrue (is_binary k) → BeginsNoCount t → count_at k t ≡ Err BadCount
count_at-no_count k t binary none = elim (answered (count_at k t)) [
  | inl x ↦ (let took = count_at-takes k t x.0.0 x.0.1 x.1 in
      let part = binary_part (is_binary k) x.0.0 took.0 binary took.2 in
      absurd (none x.0.0 part.0 x.0.1 part.1 (took.1 ∙ ap (λ (p : List ℕ). p ++ x.0.1) part.3 ∙ append_assoc part.0 (45 ∷ []) x.0.1)))
  | inr x ↦ elim (count_at-fault k t x.0 x.1).1 [
    | inl bad ↦ rw (← bad.0) x.1
    | inr many ↦ absurd (none many.1.0 many.1.1 many.1.2 many.1.4 many.1.3)
  ]
]

-- ---- the namespace

comma_at : (c : ℕ) (cs : List ℕ) (b : Bool) → is_comma c ≡ b → (b || list_any is_comma cs) ≡ false → (is_comma c ≡ false) × (list_any is_comma cs ≡ false)
comma_at c cs true e h = absurd cc
comma_at c cs false e h = (e, h)

comma_after : (s r : List ℕ) → list_any is_comma s ≡ false → prefix_len (λ b. not (is_comma b)) (s ++ 44 ∷ r) ≡ length s
comma_after [] r h = refl
comma_after (c ∷ cs) r h =
    let parts = comma_at c cs (is_comma c) refl h in
    rw (parts.0, one-add) (ap suc (comma_after cs r parts.1))

comma_none : (s : List ℕ) → list_any is_comma s ≡ false → prefix_len (λ b. not (is_comma b)) s ≡ length s
comma_none [] h = refl
comma_none (c ∷ cs) h =
    let parts = comma_at c cs (is_comma c) refl h in
    rw (parts.0, one-add) (ap suc (comma_none cs parts.1))

slash_first : (s r : List ℕ) → slice_index s 0 ≡ 47 → slice_index (s ++ r) 0 ≡ 47
slash_first [] r h = absurd (omega (arith, h))
slash_first (c ∷ cs) r h = h

space_other : (r : List ℕ) → slice_index r 0 ≢ 47 → space_at r ≡ Ok (codes "/", r)
unfolding space_at
space_other r h = grind (arith, common_steps, nat_tests, h)

space_comma : (s r : List ℕ) → IsSpace s → space_at (s ++ 44 ∷ r) ≡ Ok (s, r)
unfolding space_at
space_comma s r h = rw (slash_first s (44 ∷ r) h.begins, comma_after s r h.no_comma, take_front s (44 ∷ r), h.no_control, drop_past s r 44)

space_end : (s : List ℕ) → IsSpace s → space_at s ≡ Ok (s, [])
unfolding space_at
space_end s h = rw (h.begins, comma_none s h.no_comma, take_all (length s) s (omega arith), h.no_control, drop_all (length s + 1) s (omega arith))

space_named : (s part r : List ℕ) → IsSpace s → (part ≡ s ++ 44 ∷ []) ⊎ ((part ≡ s) × (r ≡ [])) → space_at (part ++ r) ≡ Ok (s, r)
space_named s part r is (inl h) = rw (h, append_assoc) (space_comma s r is)
space_named s part r is (inr h) = rw (h.0, h.1, append-nil) (space_end s is)

pub space_at-again : (s part r : List ℕ) → SpacePart s part r → space_at (part ++ r) ≡ Ok (s, r)
space_at-again s part r (inl h) = rw (h.0, h.1) (space_other r h.2)
space_at-again s part r (inr h) = space_named s part r h.0 h.1

-- the text of the namespace, and a rest
abbrev TakesSpace : List ℕ → List ℕ → List ℕ → Type 0
TakesSpace t s r = (part : List ℕ) × (t ≡ part ++ r) × SpacePart s part r

no_space : (t s r : List ℕ) → slice_index t 0 ≢ 47 → given {A = List ℕ × List ℕ} (codes "/", t) ≡ Ok (s, r) → TakesSpace t s r
no_space t s r other h =
    let is : s ≡ codes "/" = (pair_is _ _ _ _ h).0 in
    let same : r ≡ t = (pair_is _ _ _ _ h).1 in
    ([], sym same, inl (is, refl, rw same other))

-- cut at the first comma, or all in front where there is none
abbrev Cut : List ℕ → ℕ → Type 0
Cut t d = (t ≡ (take d t ++ 44 ∷ []) ++ drop (d + 1) t) ⊎ ((t ≡ take d t) × (drop (d + 1) t ≡ []))

cut_more : (x : ℕ) (xs : List ℕ) (d : ℕ) → Cut xs d → Cut (x ∷ xs) (suc d)
cut_more x xs d (inl h) = inl (rw add-one (ap (λ (l : List ℕ). x ∷ l) (rw add-one at h)))
cut_more x xs d (inr h) = inr (ap (λ (l : List ℕ). x ∷ l) h.0, rw add-one (rw add-one at h.1))

cut_step : (x : ℕ) (xs : List ℕ) (b : Bool) → is_comma x ≡ b → Cut xs (prefix_len (λ c. not (is_comma c)) xs) → Cut (x ∷ xs) (cond (not b) (1 + prefix_len (λ c. not (is_comma c)) xs) 0)
cut_step x xs true e later = let is : x ≡ 44 = grind (arith, nat_tests, e) in inl (ap (λ (y : ℕ). y ∷ xs) is)
cut_step x xs false e later = rw one-add (cut_more x xs (prefix_len (λ c. not (is_comma c)) xs) later)

cut_comma : (t : List ℕ) → Cut t (prefix_len (λ c. not (is_comma c)) t)
cut_comma [] = inr (refl, refl)
cut_comma (x ∷ xs) = cut_step x xs (is_comma x) refl (cut_comma xs)

front_step : (x : ℕ) (xs : List ℕ) (b : Bool) → is_comma x ≡ b → list_any is_comma (take (prefix_len (λ c. not (is_comma c)) xs) xs) ≡ false
    → list_any is_comma (take (cond (not b) (1 + prefix_len (λ c. not (is_comma c)) xs) 0) (x ∷ xs)) ≡ false
front_step x xs true e later = refl
front_step x xs false e later = rw (one-add, e) later

-- no comma is in front of the first comma
front_no_comma : (t : List ℕ) → list_any is_comma (take (prefix_len (λ c. not (is_comma c)) t) t) ≡ false
front_no_comma [] = refl
front_no_comma (x ∷ xs) = front_step x xs (is_comma x) refl (front_no_comma xs)

front_slash : (t : List ℕ) → slice_index t 0 ≡ 47 → slice_index (take (prefix_len (λ c. not (is_comma c)) t) t) 0 ≡ 47
front_slash [] h = absurd (omega (arith, h))
front_slash (x ∷ xs) h = let other : is_comma x ≡ false = grind (arith, nat_tests, h) in rw (other, one-add) h

some_space : (t s r : List ℕ) → slice_index t 0 ≡ 47 → list_any is_control (before_first is_comma t) ≡ false
    → given {A = List ℕ × List ℕ} (before_first is_comma t, after_first is_comma t) ≡ Ok (s, r) → TakesSpace t s r
some_space t s r slash control h =
    let is : s ≡ before_first is_comma t = (pair_is _ _ _ _ h).0 in
    let same : r ≡ after_first is_comma t = (pair_is _ _ _ _ h).1 in
    let space : IsSpace s = rw is (record { begins = front_slash t slash; no_comma = front_no_comma t; no_control = control }) in
    elim (cut_comma t) [
      | inl cut ↦ (s ++ 44 ∷ [], rw (is, same) cut, inr (space, inl refl))
      | inr all ↦ (s, rw (is, same, all.1, append-nil) all.0, inr (space, inr (refl, rw same all.1)))
    ]

pub space_at-takes : (t s r : List ℕ) → space_at t ≡ Ok (s, r) → TakesSpace t s r
unfolding space_at
space_at-takes t s r h = elim (chosen (not (slice_index t 0 == 47)) _ _ _ h) [
  | inl a ↦ no_space t s r (grind (arith, nat_tests, a.0)) a.1
  | inr b ↦ elim (chosen (list_any is_control (before_first is_comma t)) _ _ _ b.1) [
    | inl c ↦ absurd (cc (c.1))
    | inr d ↦ some_space t s r (grind (arith, nat_tests, b.0)) d.0 d.1
  ]
]

-- a namespace with a control character is in front
abbrev pub BeginsBadSpace : List ℕ → Type 0
BeginsBadSpace t = (slice_index t 0 ≡ 47) × IsTrue (list_any is_control (before_first is_comma t))

pub space_at-fault : (t : List ℕ) (e : SioError) → space_at t ≡ Err e → (e ≡ BadShape) × BeginsBadSpace t
unfolding space_at
space_at-fault t e h = elim (chosen (not (slice_index t 0 == 47)) _ _ _ h) [
  | inl a ↦ absurd (cc (a.1))
  | inr b ↦ elim (chosen (list_any is_control (before_first is_comma t)) _ _ _ b.1) [
    | inl c ↦ (cc (c.1), (grind (arith, nat_tests, b.0), c.0))
    | inr d ↦ absurd (cc (d.1))
  ]
]

pub space_at-bad : (t : List ℕ) → BeginsBadSpace t → space_at t ≡ Err BadShape
unfolding space_at
space_at-bad t h = rw (h.0, h.1)
