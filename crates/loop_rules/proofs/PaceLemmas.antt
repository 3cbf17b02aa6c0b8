-- A client keeps its pace.
use Rattle.std.proofs.Common.{◌≡◌, ℕ, zero, suc, ◌+◌, ◌-◌, ◌*◌, ◌≤◌, ◌<◌, ◌⊎◌, inl, inr, Bool, true, false, ◌||◌, cond, List, [], ◌∷◌, ◌++◌, Option, None, Some, max, min, nat_le, refl, sym, subst, ap, arith, mul-add, mul-le-mul_left, mul_comm, nat_eq, nat_lt, ◌∙◌}
use Rattle.std.specs.List.{filter, IsDistinct}
use Rattle.std.specs.Map.{lookup, keys_of}
use Rattle.std.proofs.lemmas.Cmp.{nat_eq_equiv}
use Rattle.std.proofs.lemmas.List.Sums.{sum_by-cons}
use Rattle.std.proofs.lemmas.Map.Entries.{lookup-filter-values, option_filter}
use Rattle.std.specs.Prelude.{sum_by}
use Rattle.std.proofs.lemmas.Bool.Decides.{nat_tests}
use Rattle.loop_rules.specs.declared.paces.Lack.{Lack}
use Rattle.loop_rules.specs.declared.paces.Pace.{Pace}
use Rattle.loop_rules.specs.Paces.{Step, Brings, Forgets, left, fits, spare, is_over, may_bring, events_of, latest, lack_after, IsPaced, IsSince, KeepsPace, unless_full}

is_less : (a b : ℕ) → nat_le a b ≡ true → a ≤ b
is_less a b is = grind (arith, nat_tests, is)

less_is : (a b : ℕ) → a ≤ b → nat_le a b ≡ true
less_is a b is = grind (arith, nat_tests, is)

more_is : (a b : ℕ) → b < a → nat_le a b ≡ false
more_is a b is = grind (arith, nat_tests, is)

-- ## The first moment

neither : (a b : Bool) → a ≡ false → b ≡ false → (a || b) ≡ false
neither a b first second = rw (first, second) refl

one_of : (a b : Bool) → b ≡ true → (a || b) ≡ true
one_of true b is = refl
one_of false b is = is

first_of : (a b : Bool) → a ≡ true → (a || b) ≡ true
first_of a b is = rw is refl

some_wait : (w r x : ℕ) → 0 < x → x ≤ w * r → 0 < w
some_wait zero r x some less = absurd (omega (arith, some, less))
some_wait (suc w) r x some less = omega arith

-- so much isn't given back earlier
too_early : (x r d w : ℕ) → w * r < x + r → d < w → r * d < x
too_early x r d w less early =
    let step : d + 1 ≤ w = omega (arith, early) in
    let more : r * (d + 1) ≤ r * w = mul-le-mul_left r step in
    let apart : r * (d + 1) ≡ r * d + r = omega (arith, mul-add r d 1) in
    omega (arith, less, more, apart, mul_comm w r)

pub held_before : (lacks since r spare stretch now t w l : ℕ) → l ≡ lacks - r * (now - since) → spare < l → now - since < stretch
    → (l - spare ≤ w * r) × (w * r < (l - spare) + r) → t < max now since + w → t < since + stretch → now ≤ t
    → (nat_le (lacks - r * (t - since)) spare || nat_le stretch (t - since)) ≡ false
held_before lacks since r spare stretch now t w l is much short wait early soon later =
    let some = some_wait w r (l - spare) (omega (arith, much)) wait.0 in
    let less = too_early (l - spare) r (t - max now since) w wait.1 (omega (arith, early, some)) in
    let passed : t - since ≤ (now - since) + (t - max now since) = omega arith in
    let given : r * (t - since) ≤ r * ((now - since) + (t - max now since)) = mul-le-mul_left r passed in
    let apart = mul-add r (now - since) (t - max now since) in
    neither _ _ (more_is (lacks - r * (t - since)) spare (omega (arith, is, given, apart, less, much)))
    (more_is stretch (t - since) (omega (arith, soon, short)))

comes_full : (lacks since r spare now w l : ℕ) (v : Bool) → l ≡ lacks - r * (now - since) → l - spare ≤ w * r
    → (nat_le (lacks - r * ((max now since + w) - since)) spare || v) ≡ true
comes_full lacks since r spare now w l v is enough =
    let passed : (max now since + w) - since ≡ (now - since) + w = omega arith in
    let given : r * ((max now since + w) - since) ≡ r * (now - since) + r * w = rw passed (mul-add r (now - since) w) in
    first_of _ v (less_is (lacks - r * ((max now since + w) - since)) spare (omega (arith, is, given, enough, mul_comm w r)))

comes_over : (since stretch : ℕ) (f : Bool) → (f || nat_le stretch ((since + stretch) - since)) ≡ true
comes_over since stretch f = one_of f _ (less_is stretch ((since + stretch) - since) (omega arith))

pub comes_at : (lacks since r spare stretch now w l t : ℕ) → l ≡ lacks - r * (now - since) → l - spare ≤ w * r
    → ((t ≡ max now since + w) ⊎ (t ≡ since + stretch)) → (nat_le (lacks - r * (t - since)) spare || nat_le stretch (t - since)) ≡ true
comes_at lacks since r spare stretch now w l t is enough (inl full) =
    subst (λ t. (nat_le (lacks - r * (t - since)) spare || nat_le stretch (t - since)) ≡ true) (sym full)
    (comes_full lacks since r spare now w l (nat_le stretch ((max now since + w) - since)) is enough)
comes_at lacks since r spare stretch now w l t is enough (inr over) =
    subst (λ t. (nat_le (lacks - r * (t - since)) spare || nat_le stretch (t - since)) ≡ true) (sym over)
    (comes_over since stretch (nat_le (lacks - r * ((since + stretch) - since)) spare))

not_less : (a b : ℕ) → nat_le a b ≡ false → b < a
not_less a b is = grind (arith, nat_tests, is)

first_by : (b : Bool) (x y full most t : ℕ) → nat_le full most ≡ b → full ≡ min x 340282366920938463463374607431768211455
    → most ≡ min y 18446744073709551615 → t ≡ min full most → t < 18446744073709551615 → (t ≡ x) ⊎ (t ≡ y)
first_by true x y full most t is full_is most_is t_is soon = inl (omega (arith, is_less full most is, full_is, t_is, soon))
first_by false x y full most t is full_is most_is t_is soon = inr (omega (arith, not_less full most is, most_is, t_is, soon))

pub first_is : (x y full most t : ℕ) → full ≡ min x 340282366920938463463374607431768211455 → most ≡ min y 18446744073709551615
    → t ≡ min full most → t < 18446744073709551615 → (t ≡ x) ⊎ (t ≡ y)
first_is x y full most t = first_by (nat_le full most) x y full most t refl

-- ## The law

-- a product over two times
split_time : (r a b c : ℕ) → a ≤ b → b ≤ c → r * (c - a) ≡ r * (c - b) + r * (b - a)
split_time r a b c low high =
    let whole : c - a ≡ (c - b) + (b - a) = omega (arith, low, high) in
    rw whole (mul-add r (c - b) (b - a))

-- so many come where the allowance suffices, or where nothing came since the start, and then time passes
by_fits : (f v : Bool) (r l k e m t s : ℕ) → s ≤ m → m ≤ t → 1000 * e ≤ l + r * (m - s) → (v ≡ true → e ≡ 0)
    → (f || v) ≡ true → 1000 * (k + e) ≤ ((cond f l 0 + 1000 * k) - r * (t - m)) + r * (t - s)
by_fits true v r l k e m t s low high less none may = omega (arith, split_time r s m t low high, less)
by_fits false v r l k e m t s low high less none may = omega (arith, split_time r s m t low high, none may)

full_left : (r l e m t s : ℕ) → s ≤ m → m ≤ t → 1000 * e ≤ l + r * (m - s) → l ≡ 0 → 1000 * (0 + e) ≤ 0 + r * (t - s)
full_left r l e m t s low high less full = omega (arith, split_time r s m t low high, less, full)

-- what comes last
last_fits : (b count : ℕ) (r l e now s : ℕ) → l ≤ 1000 * (b - count) → 1000 * e ≤ l + r * (now - s) → now < s + 1000
    → e + count ≤ r + max b count
last_fits b count r l e now s fit less soon =
    let short : now - s ≤ 999 = omega (arith, soon) in
    let given : r * (now - s) ≤ r * 999 = mul-le-mul_left r short in
    omega (arith, fit, less, given)

last : (f v : Bool) (b count r l e now s : ℕ) → (f ≡ true → l ≤ 1000 * (b - count)) → 1000 * e ≤ l + r * (now - s) → now < s + 1000
    → (v ≡ true → e ≡ 0) → (f || v) ≡ true → e + count ≤ r + max b count
last true v b count r l e now s fit less soon none may = last_fits b count r l e now s (fit refl) less soon
last false v b count r l e now s fit less soon none may = omega (arith, none may)

too_soon : (stretch t m start : ℕ) → start ≤ m → m ≤ t → t < start + stretch → nat_le stretch (t - m) ≡ true → ⊥
too_soon stretch t m start low high soon over = omega (arith, low, high, soon, is_less stretch (t - m) over)

module _ (p : Pace) (start : ℕ) (older : List Step) where
  -- where nothing came for a stretch, nothing came since the start
  quiet : (newer : List Step) (t : ℕ) → latest (newer ++ older) ≤ t → IsSince start newer → t < start + p.stretch
      → is_over p.stretch t (lack_after p (newer ++ older)) ≡ true → sum_by events_of newer ≡ 0
  unfolding lack_after
  quiet [] t late all soon over = refl
  quiet (Brings m k ∷ ns) t late all soon over = absurd (too_soon p.stretch t m start all.0 late soon over)
  quiet (Forgets m ∷ ns) t late all soon over = absurd (cc)

  -- what came since the start was given back since, or lacks still
  came : (newer : List Step) (t : ℕ) → IsPaced p (newer ++ older) → latest (newer ++ older) ≤ t
      → IsSince start newer → t < start + p.stretch
      → 1000 * sum_by events_of newer ≤ left p.rate t (lack_after p (newer ++ older)) + p.rate * (t - start)
  unfolding lack_after IsPaced
  came [] t paced late all soon = omega arith
  came (Brings m k ∷ ns) t paced late all soon =
      let before = came ns m paced.2 paced.0 all.1 (omega (arith, late, soon)) in
      subst (λ n. 1000 * n ≤ left p.rate t (lack_after p (Brings m k ∷ ns ++ older)) + p.rate * (t - start))
      (sym (sum_by-cons events_of (Brings m k) ns))
      (by_fits (fits p k m (lack_after p (ns ++ older))) (is_over p.stretch m (lack_after p (ns ++ older))) p.rate
      (left p.rate m (lack_after p (ns ++ older))) k (sum_by events_of ns) m t start all.0 late before
      (quiet ns m paced.0 all.1 (omega (arith, late, soon))) paced.1)
  came (Forgets m ∷ ns) t paced late all soon =
      let before = came ns m paced.2 paced.0 all.1 (omega (arith, late, soon)) in
      subst (λ n. 1000 * n ≤ left p.rate t (lack_after p (Forgets m ∷ ns ++ older)) + p.rate * (t - start))
      (sym (sum_by-cons events_of (Forgets m) ns))
      (full_left p.rate (left p.rate m (lack_after p (ns ++ older))) (sum_by events_of ns) m t start all.0 late before paced.1)

pub keeps_pace : (p : Pace) (o : Option Lack) (count now : ℕ) → may_bring p count now o ≡ true → KeepsPace p o count now
keeps_pace p o count now may newer older start is paced late all soon long =
    let before = came p start older newer now paced late all (omega (arith, soon, long)) in
    let less : 1000 * sum_by events_of newer ≤ left p.rate now o + p.rate * (now - start)
    = subst (λ l. 1000 * sum_by events_of newer ≤ left p.rate now l + p.rate * (now - start)) is before in
    let none : is_over p.stretch now o ≡ true → sum_by events_of newer ≡ 0
    = λ over. quiet p start older newer now late all (omega (arith, soon, long)) (subst (λ l. is_over p.stretch now l ≡ true) (sym is) over) in
    last (fits p count now o) (is_over p.stretch now o) p.burst count p.rate (left p.rate now o) (sum_by events_of newer) now start
    (is_less (left p.rate now o) (spare p count)) less soon none may

-- ## What is forgotten

kept_is : (rate now : ℕ) (o : Option Lack) → option_filter (λ l. nat_lt 0 (left rate now (Some l))) o ≡ unless_full rate now o
kept_is rate now None = refl
kept_is rate now (Some l) = refl

-- of those that are kept
pub found_kept : (rate now client : ℕ) (old new : List (ℕ × Lack)) → new ≡ filter (λ e. nat_lt 0 (left rate now (Some e.1))) old
    → IsDistinct nat_eq (keys_of old) → lookup (nat_eq client) new ≡ unless_full rate now (lookup (nat_eq client) old)
found_kept rate now client old new is distinct =
    ap (lookup (nat_eq client)) is ∙ lookup-filter-values nat_eq_equiv (λ l. nat_lt 0 (left rate now (Some l))) client old distinct
    ∙ kept_is rate now (lookup (nat_eq client) old)
