-- The longest end of some broadcasts that fits, and the bytes that they hold.
use Rattle.std.proofs.Common.{◌≡◌, ℕ, zero, suc, ◌+◌, ◌≤◌, Bool, true, false, ◌&&◌, List, [], ◌∷◌, ◌++◌, length, drop, filter, refl, sym, ap, ◌∙◌, arith, length-append, if◌then◌else◌, ◌<◌, Option, Some, None, IfSome, IfNone, unwrap_or, is_some, add-one, ◌⊎◌, ⊎_elim}
use Rattle.std.specs.Prelude.{nat_le}
use Rattle.std.specs.List.{slice_get}
use Rattle.std.proofs.lemmas.Bool.Decides.{nat_tests}
use Rattle.std.proofs.lemmas.List.Sums.{sum_by-cons}
use Rattle.recovery.specs.PacketLog.{PlainLogged, logged_size, logged_bytes, fits, newest}
use Rattle.recovery.specs.Latest.{Shelf, shelf}

-- ---- bytes

pub bytes_none : logged_bytes [] ≡ 0
unfolding logged_bytes
bytes_none = refl

pub bytes_more : (e : PlainLogged) (es : List PlainLogged) → logged_bytes (e ∷ es) ≡ logged_size e + logged_bytes es
unfolding logged_bytes
bytes_more e es = sum_by-cons logged_size e es

pub bytes_append : (es fs : List PlainLogged) → logged_bytes (es ++ fs) ≡ logged_bytes es + logged_bytes fs
bytes_append [] fs = omega (arith, bytes_none)
bytes_append (e ∷ es) fs = omega (arith, bytes_append es fs, bytes_more e es, bytes_more e (es ++ fs))

pub bytes_dropped : (k : ℕ) (es : List PlainLogged) → logged_bytes (drop k es) ≤ logged_bytes es
bytes_dropped zero es = omega arith
bytes_dropped (suc k) [] = omega arith
bytes_dropped (suc k) (e ∷ es) = omega (arith, bytes_dropped k es, bytes_more e es)

pub bytes_filtered : (p : PlainLogged → Bool) (es : List PlainLogged) → logged_bytes (filter p es) ≤ logged_bytes es
bytes_filtered p [] = omega arith
bytes_filtered p (e ∷ es) = at (p e) (bytes_filtered p es)
  where
    at : (b : Bool) → logged_bytes (filter p es) ≤ logged_bytes es → logged_bytes (if b then e ∷ filter p es else filter p es) ≤ logged_bytes (e ∷ es)
    at true less = omega (arith, less, bytes_more e es, bytes_more e (filter p es))
    at false less =
        let here : logged_bytes (filter p es) ≤ logged_bytes (e ∷ es) = omega (arith, less, bytes_more e es) in
        here

pub length_filtered : (p : PlainLogged → Bool) (es : List PlainLogged) → length (filter p es) ≤ length es
length_filtered p [] = omega arith
length_filtered p (e ∷ es) = at (p e) (length_filtered p es)
  where
    at : (b : Bool) → length (filter p es) ≤ length es → length (if b then e ∷ filter p es else filter p es) ≤ length (e ∷ es)
    at true less = omega (arith, less)
    at false less =
        let here : length (filter p es) ≤ length (e ∷ es) = omega (arith, less) in
        here

-- ---- what fits

reached : (a b : ℕ) → a ≤ b → nat_le a b ≡ true
reached a b h = grind (arith, nat_tests)

both_hold : (p q : Bool) → p ≡ true → q ≡ true → (p && q) ≡ true
both_hold true q h i = i
both_hold false q h i = absurd (cc)

first_holds : (p q : Bool) → (p && q) ≡ true → p ≡ true
first_holds true q h = refl
first_holds false q h = absurd (cc)

second_holds : (p q : Bool) → (p && q) ≡ true → q ≡ true
second_holds true q h = h
second_holds false q h = absurd (cc)

one_of_two : (b : Bool) → (b ≡ true → ⊥) → b ≡ false
one_of_two true h = absurd (h refl)
one_of_two false h = refl

pub do_fit : (limit bytes : ℕ) (es : List PlainLogged) → length es ≤ limit → logged_bytes es ≤ bytes → fits limit bytes es ≡ true
do_fit limit bytes es count size = both_hold (nat_le (length es) limit) (nat_le (logged_bytes es) bytes) (reached (length es) limit count) (reached (logged_bytes es) bytes size)

below_or_at : (a b : ℕ) → nat_le a b ≡ true → a ≤ b
below_or_at a b h = grind (arith, nat_tests)

pub fit_count : (limit bytes : ℕ) (es : List PlainLogged) → fits limit bytes es ≡ true → length es ≤ limit
fit_count limit bytes es h = below_or_at (length es) limit (first_holds (nat_le (length es) limit) (nat_le (logged_bytes es) bytes) h)

pub fit_bytes : (limit bytes : ℕ) (es : List PlainLogged) → fits limit bytes es ≡ true → logged_bytes es ≤ bytes
fit_bytes limit bytes es h = below_or_at (logged_bytes es) bytes (second_holds (nat_le (length es) limit) (nat_le (logged_bytes es) bytes) h)

-- what is less fits too, and what is more doesn't either
pub fewer_fit : (limit bytes : ℕ) (es fs : List PlainLogged) → length fs ≤ length es → logged_bytes fs ≤ logged_bytes es → fits limit bytes es ≡ true → fits limit bytes fs ≡ true
fewer_fit limit bytes es fs count size h =
    do_fit limit bytes fs (omega (arith, count, fit_count limit bytes es h)) (omega (arith, size, fit_bytes limit bytes es h))

pub more_do_not : (limit bytes : ℕ) (es fs : List PlainLogged) → length es ≤ length fs → logged_bytes es ≤ logged_bytes fs → fits limit bytes es ≡ false → fits limit bytes fs ≡ false
more_do_not limit bytes es fs count size h =
    one_of_two (fits limit bytes fs) (λ is. differ (fits limit bytes es) (fewer_fit limit bytes fs es count size is) h)
  where
    differ : (b : Bool) → b ≡ true → b ≡ false → ⊥
    differ true h i = absurd (cc)
    differ false h i = absurd (cc)

pub none_fit : (limit bytes : ℕ) → fits limit bytes [] ≡ true
none_fit limit bytes = do_fit limit bytes [] (omega arith) (omega (arith, bytes_none))

-- ---- the longest end that fits

pub newest_drop : (limit bytes : ℕ) (es : List PlainLogged) → (k : ℕ) × (newest limit bytes es ≡ drop k es)
unfolding newest
newest_drop limit bytes [] = (0, refl)
newest_drop limit bytes (e ∷ es) = at (fits limit bytes (e ∷ es)) (newest_drop limit bytes es)
  where
    at : (b : Bool) → (k : ℕ) × (newest limit bytes es ≡ drop k es) → (k : ℕ) × ((if b then e ∷ es else newest limit bytes es) ≡ drop k (e ∷ es))
    at true rest = (0, refl)
    at false rest = (suc rest.0, rest.1)

pub newest_end : (limit bytes : ℕ) (es : List PlainLogged) → (before : List PlainLogged) × (es ≡ before ++ newest limit bytes es)
unfolding newest
newest_end limit bytes [] = ([], refl)
newest_end limit bytes (e ∷ es) = at (fits limit bytes (e ∷ es)) (newest_end limit bytes es)
  where
    at : (b : Bool) → (before : List PlainLogged) × (es ≡ before ++ newest limit bytes es) → (before : List PlainLogged) × (e ∷ es ≡ before ++ (if b then e ∷ es else newest limit bytes es))
    at true rest = ([], refl)
    at false rest = (e ∷ rest.0, ap (λ xs. e ∷ xs) rest.1)

pub newest_fits : (limit bytes : ℕ) (es : List PlainLogged) → fits limit bytes (newest limit bytes es) ≡ true
unfolding newest
newest_fits limit bytes [] = none_fit limit bytes
newest_fits limit bytes (e ∷ es) = at (fits limit bytes (e ∷ es)) refl (newest_fits limit bytes es)
  where
    at : (b : Bool) → fits limit bytes (e ∷ es) ≡ b → fits limit bytes (newest limit bytes es) ≡ true → fits limit bytes (if b then e ∷ es else newest limit bytes es) ≡ true
    at true is rest = is
    at false is rest = rest

-- of what fits nothing is forgotten
pub newest_whole : (limit bytes : ℕ) (es : List PlainLogged) → fits limit bytes es ≡ true → newest limit bytes es ≡ es
unfolding newest
newest_whole limit bytes [] h = refl
newest_whole limit bytes (e ∷ es) h = ap (λ b. if b then e ∷ es else newest limit bytes es) h

-- the oldest of what doesn't fit is forgotten
pub newest_less : (limit bytes : ℕ) (e : PlainLogged) (es : List PlainLogged) → fits limit bytes (e ∷ es) ≡ false → newest limit bytes (e ∷ es) ≡ newest limit bytes es
unfolding newest
newest_less limit bytes e es h = ap (λ b. if b then e ∷ es else newest limit bytes es) h

-- what was forgotten before one more came would have been forgotten with it
pub newest_again : (limit bytes : ℕ) (es : List PlainLogged) (e : PlainLogged) → newest limit bytes (newest limit bytes es ++ e ∷ []) ≡ newest limit bytes (es ++ e ∷ [])
unfolding newest
newest_again limit bytes [] e = refl
newest_again limit bytes (x ∷ es) e = at (fits limit bytes (x ∷ es)) refl (newest_again limit bytes es e)
  where
    at : (b : Bool) → fits limit bytes (x ∷ es) ≡ b → newest limit bytes (newest limit bytes es ++ e ∷ []) ≡ newest limit bytes (es ++ e ∷ [])
        → newest limit bytes ((if b then x ∷ es else newest limit bytes es) ++ e ∷ []) ≡ newest limit bytes ((x ∷ es) ++ e ∷ [])
    at true is rest = refl
    at false is rest =
        rest ∙ sym (newest_less limit bytes x (es ++ e ∷ [])
        (more_do_not limit bytes (x ∷ es) ((x ∷ es) ++ e ∷ []) (omega (arith, length-append es (e ∷ []))) (omega (arith, bytes_append (x ∷ es) (e ∷ []))) is))

-- one that doesn't fit beside the others has the oldest of these forgotten
newest_step : (limit bytes i : ℕ) (es : List PlainLogged) (e : PlainLogged) → i < length es → fits limit bytes (drop i es ++ e ∷ []) ≡ false
    → newest limit bytes (drop i es ++ e ∷ []) ≡ newest limit bytes (drop (suc i) es ++ e ∷ [])
newest_step limit bytes i [] e within not_yet = absurd (omega (arith, within))
newest_step limit bytes zero (x ∷ es) e within not_yet = newest_less limit bytes x (es ++ e ∷ []) not_yet
newest_step limit bytes (suc i) (x ∷ es) e within not_yet = newest_step limit bytes i es e (omega (arith, within)) not_yet

pub newest_next : (limit bytes i : ℕ) (es : List PlainLogged) (e : PlainLogged) → i < length es → fits limit bytes (drop i es ++ e ∷ []) ≡ false
    → newest limit bytes (drop i es ++ e ∷ []) ≡ newest limit bytes (drop (i + 1) es ++ e ∷ [])
newest_next limit bytes i es e within not_yet = rw add-one (newest_step limit bytes i es e within not_yet)

-- what holds where there is none
pub when_none : {A : Type 0} {P : Type 0} (o : Option A) → is_some o ≡ false → IfNone o P → P
when_none (Some x) is holds = absurd (cc)
when_none None is holds = holds

-- ---- the ring

-- a size that fits is known
pub known_size : (o : Option ℕ) (size : ℕ) → IfSome o (λ s. s ≡ size) → IfNone o (18446744073709551615 < size) → size ≤ 18446744073709551615 → unwrap_or o 0 ≡ size
known_size (Some s) size some none fits = some
known_size None size some none fits = absurd (omega (arith, none, fits))

-- the oldest gives its bytes back
pub bytes_front : (es : List PlainLogged) (e : PlainLogged) → Some e ≡ slice_get es 0 → logged_size e + logged_bytes (drop 1 es) ≡ logged_bytes es
bytes_front [] e is = absurd (cc)
bytes_front (x ∷ es) e is =
    let same : e ≡ x = cc in
    ap (λ z. logged_size z + logged_bytes es) same ∙ sym (bytes_more x es)

pub bytes_push : (es : List PlainLogged) (e : PlainLogged) → logged_bytes (es ++ e ∷ []) ≡ logged_bytes es + logged_size e
bytes_push es e = omega (arith, bytes_append es (e ∷ []), bytes_more e [], bytes_none)

pub has_space : (limit bytes : ℕ) (es : List PlainLogged) (e : PlainLogged) → length es < limit → logged_bytes es + logged_size e ≤ bytes → fits limit bytes (es ++ e ∷ []) ≡ true
has_space limit bytes es e count size =
    do_fit limit bytes (es ++ e ∷ []) (omega (arith, count, length-append es (e ∷ []))) (omega (arith, size, bytes_push es e))

pub lacks_place : (limit bytes : ℕ) (es : List PlainLogged) (e : PlainLogged) → limit ≤ length es → fits limit bytes (es ++ e ∷ []) ≡ false
lacks_place limit bytes es e full =
    one_of_two (fits limit bytes (es ++ e ∷ []))
    (λ is. let short = fit_count limit bytes (es ++ e ∷ []) is in omega (arith, short, full, length-append es (e ∷ [])))

pub lacks_bytes : (limit bytes : ℕ) (es : List PlainLogged) (e : PlainLogged) → bytes < logged_bytes es + logged_size e → fits limit bytes (es ++ e ∷ []) ≡ false
lacks_bytes limit bytes es e full =
    one_of_two (fits limit bytes (es ++ e ∷ []))
    (λ is. let small = fit_bytes limit bytes (es ++ e ∷ []) is in omega (arith, small, full, bytes_push es e))

-- ---- one more

module _ (old mid : Shelf) (e : PlainLogged) (same : mid ≡ record old { entries = mid.entries })
    (leaves : newest old.limit old.bytes (old.entries ++ e ∷ []) ≡ newest old.limit old.bytes (mid.entries ++ e ∷ [])) where
  space_is : fits mid.limit mid.bytes (mid.entries ++ e ∷ []) ≡ fits old.limit old.bytes (mid.entries ++ e ∷ [])
  space_is = (λ i. fits (ap (λ (s : Shelf). s.limit) same i) (ap (λ (s : Shelf). s.bytes) same i) (mid.entries ++ e ∷ []))

  -- it has space beside those that are left
  pub added_beside : fits mid.limit mid.bytes (mid.entries ++ e ∷ []) ≡ true
      → shelf mid.limit mid.bytes (mid.entries ++ e ∷ []) ≡ record old { entries = newest old.limit old.bytes (old.entries ++ e ∷ []) }
  added_beside space =
      let all = sym (newest_whole old.limit old.bytes (mid.entries ++ e ∷ []) (sym space_is ∙ space)) ∙ sym leaves in
      (λ i. shelf (ap (λ (s : Shelf). s.limit) same i) (ap (λ (s : Shelf). s.bytes) same i) (all i))

  -- it has no space, though none is left
  pub left_out : (fits old.limit old.bytes (mid.entries ++ e ∷ []) ≡ true) ⊎ (mid.entries ≡ []) → fits mid.limit mid.bytes (mid.entries ++ e ∷ []) ≡ false
      → mid ≡ record old { entries = newest old.limit old.bytes (old.entries ++ e ∷ []) }
  unfolding newest
  left_out enough lacks =
      ⊎_elim
      (λ is. absurd (let no : true ≡ false = sym is ∙ sym space_is ∙ lacks in cc))
      (λ empty.
      let alone : fits old.limit old.bytes (e ∷ []) ≡ false = ap (λ es. fits old.limit old.bytes (es ++ e ∷ [])) (sym empty) ∙ sym space_is ∙ lacks in
      let none : newest old.limit old.bytes (old.entries ++ e ∷ []) ≡ [] = leaves ∙ ap (λ es. newest old.limit old.bytes (es ++ e ∷ [])) empty ∙ newest_less old.limit old.bytes e [] alone in
      same ∙ ap (λ es. shelf old.limit old.bytes es) (empty ∙ sym none))
      enough
