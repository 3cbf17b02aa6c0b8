-- How fast one client may send: an allowance that fills with time, in thousandths of an event.
use Rattle.std.specs.Prelude.{◌≡◌, ◌⊎◌, ℕ, ◌+◌, ◌-◌, ◌*◌, ◌≤◌, ◌<◌, max, min, Bool, true, false, ◌||◌, cond, nat_eq, nat_le, nat_lt, Option, None, Some, IsSome, List, [], ◌∷◌, ◌++◌, sum_by}
use Rattle.std.specs.HashMap.{get}
use Rattle.loop_rules.specs.declared.paces.Lack.{Lack}
use Rattle.loop_rules.specs.declared.paces.Pace.{Pace}
use Rattle.loop_rules.specs.declared.paces.Paces.{Paces}

-- ## The allowance

-- what is listed of a client's allowance; one that isn't listed is full
abbrev pub allowance : Paces → (client : ℕ) → Option Lack
allowance p client = get nat_eq p.lacks client

abbrev pub Known : Paces → (client : ℕ) → Type 0
Known p client = IsSome (allowance p client)

-- what an allowance lacks at a moment: each millisecond gives back a thousandth for each event of a second
abbrev pub left : (rate now : ℕ) → Option Lack → ℕ
left rate now None = 0
left rate now (Some l) = l.lacks - rate * (now - l.since)

-- what it may lack where so many are to come: more than the burst need a full one
abbrev pub spare : Pace → (count : ℕ) → ℕ
spare p count = 1000 * (p.burst - count)

abbrev pub fits : Pace → (count now : ℕ) → Option Lack → Bool
fits p count now o = nat_le (left p.rate now o) (spare p count)

-- nothing came for a stretch
abbrev pub is_over : (stretch now : ℕ) → Option Lack → Bool
is_over stretch now None = false
is_over stretch now (Some l) = nat_le stretch (now - l.since)

-- so many may come where the allowance suffices, or where nothing came for a stretch
abbrev pub may_bring : Pace → (count now : ℕ) → Option Lack → Bool
may_bring p count now o = fits p count now o || is_over p.stretch now o

-- so many have come: the allowance lacks them, and where it didn't suffice, them alone
abbrev pub taken : Pace → (count now : ℕ) → Option Lack → Option Lack
taken p count now o =
    Some (record { lacks = cond (fits p count now o) (left p.rate now o) 0 + 1000 * count; since = now })

-- one that is full again is forgotten
abbrev pub unless_full : (rate now : ℕ) → Option Lack → Option Lack
unless_full rate now None = None
unless_full rate now (Some l) = cond (nat_lt 0 (left rate now (Some l))) (Some l) None

-- ## The law

-- what may happen to one client's allowance
pub data Step : Type 0 where
  Brings : (moment count : ℕ) → Step
  Forgets : (moment : ℕ) → Step

abbrev pub moment_of : Step → ℕ
moment_of (Brings moment count) = moment
moment_of (Forgets moment) = moment

abbrev pub events_of : Step → ℕ
events_of (Brings moment count) = count
events_of (Forgets moment) = 0

-- the moment of the newest step, which is the first one
abbrev pub latest : List Step → ℕ
latest [] = 0
latest (s ∷ h) = moment_of s

-- all of these are of this moment or later
abbrev pub IsSince : (start : ℕ) → List Step → Type 0
IsSince start [] = 0 ≤ 0
IsSince start (s ∷ h) = (start ≤ moment_of s) × IsSince start h

-- the allowance after such a history
unfoldable pub lack_after : Pace → List Step → Option Lack
lack_after p [] = None
lack_after p (Brings moment count ∷ h) = taken p count moment (lack_after p h)
lack_after p (Forgets moment ∷ h) = None

-- the moments rise, all that came might come, and what was forgotten was full
unfoldable pub IsPaced : Pace → List Step → Type 0
IsPaced p [] = 0 ≤ 0
IsPaced p (Brings moment count ∷ h) =
    (latest h ≤ moment) × (may_bring p count moment (lack_after p h) ≡ true) × IsPaced p h
IsPaced p (Forgets moment ∷ h) = (latest h ≤ moment) × (left p.rate moment (lack_after p h) ≡ 0) × IsPaced p h

-- after whatever history: in the second that began at whatever moment no more events came, with these, than
-- one second allows and the burst, or these alone where they are more than the burst
abbrev pub KeepsPace : Pace → Option Lack → (count now : ℕ) → Type 0
KeepsPace p o count now =
    (newer older : List Step) (start : ℕ) → lack_after p (newer ++ older) ≡ o → IsPaced p (newer ++ older)
    → latest (newer ++ older) ≤ now → IsSince start newer → now < start + 1000 → 1000 ≤ p.stretch
    → sum_by events_of newer + count ≤ p.rate + max p.burst count

-- so many were let through, and were counted
pub record IsBrought (p : Pace) (count now : ℕ) (old new : Option Lack) : Type 0 where
  pub counted : new ≡ taken p count now old
  pub may : may_bring p count now old ≡ true
  pub law : KeepsPace p old count now

-- neither the pace changes, nor how often one has begun to wait
pub record SamePace (old new : Paces) : Type 0 where
  pub pace : new.pace ≡ old.pace
  pub times : new.times ≡ old.times

-- ## Who waits

-- it needn't wait where it brings nothing, or what it brings may come now, as far as a u64 goes; else it waits until a
-- later moment, before which that may not come
abbrev pub WaitsUntil : Pace → Option Lack → (count now until : ℕ) → Type 0
WaitsUntil pace lack count now until =
    ((until ≡ 0) × ((count ≡ 0) ⊎ (now < 18446744073709551615 → may_bring pace count now lack ≡ true)))
    ⊎ ((now < until) × ((t : ℕ) → now ≤ t → t < until → may_bring pace count t lack ≡ false))

-- one that begins to wait counts, as far as a u64 goes
abbrev pub times_after : (before until times : ℕ) → ℕ
times_after before until times =
    cond (nat_lt 0 until) (cond (nat_eq before 0) (min (times + 1) 18446744073709551615) times) times
