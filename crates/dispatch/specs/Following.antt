-- What the steps of one client's event leave as it was.
use Rattle.std.specs.Prelude.{◌≡◌, ◌≢◌, ℕ, ◌==◌, Bool, true, false, not, if◌then◌else◌, List, [], ◌∷◌, ◌++◌}
use Rattle.std.specs.List.{AllByRecursion, list_any}
use Rattle.terms.specs.declared.entry.Entry.{Entry}
use Rattle.journal.specs.declared.step.Step.{Step}
use Rattle.journal.specs.declared.step.What.{What}
use Rattle.journal.specs.declared.step.What.TheVariants.{Opened, Attached, Recovered, Joined, Left, AllJoined, AllLeft, Cast, Told, Took, Parked, Ended, AllEnded, Closed, Swept}
use Rattle.journal.specs.Journal.{History, history}
use Rattle.journal.specs.Entries.{AllPass, own_entries}
use Rattle.journal.specs.Outboxes.{placements}
use Rattle.dispatch.specs.Commands.{is_of}

-- U+001E, which separates the packets of a payload, doesn't stand in the entry's text
abbrev pub is_clean : Entry → Bool
is_clean entry = not (list_any (λ b. b == 30) entry.text)

-- the step speaks of this client alone, or of a socket that is one of its then
abbrev pub is_own : ℕ → History → What → Bool
is_own c h (Opened d) = d == c
is_own c h (Attached k) = k.client == c
is_own c h (Recovered r) = r.socket.client == c
is_own c h (Joined s room) = is_of h c s
is_own c h (Left s room) = is_of h c s
is_own c h (Told m) = m.client == c
is_own c h (Took d most n) = d == c
is_own c h (Parked d) = d == c
is_own c h (Ended s by) = is_of h c s
is_own c h (Closed d) = d == c
is_own c h _ = false

-- the step is for all sockets of a namespace that match, whichever clients' they are
abbrev pub is_for_many : What → Bool
is_for_many (AllJoined m) = true
is_for_many (AllLeft m) = true
is_for_many (Cast b) = true
is_for_many (AllEnded d) = true
is_for_many _ = false

-- the step may be made for an event of this client: it is its own, or for many sockets; a sweep speaks of no client
abbrev pub is_turn : ℕ → History → What → Bool
is_turn c h Swept = true
is_turn c h what = if is_for_many what then true else is_own c h what

-- and it neither opens a client nor takes entries of one
abbrev pub is_work : ℕ → History → What → Bool
is_work c h (Opened d) = false
is_work c h (Took d most n) = false
is_work c h what = is_turn c h what

-- the step puts something for many: it is a broadcast, or ends many sockets and tells their clients
abbrev pub is_cast : What → Bool
is_cast (Cast b) = true
is_cast (AllEnded d) = true
is_cast _ = false

-- none of the steps is
abbrev pub CastsNothing : List Step → Type 0
CastsNothing steps = AllByRecursion (λ (step : Step). is_cast step.what ≡ false) steps

-- each of the steps, the newest first, is such where it was made
abbrev pub AreMade : (History → What → Bool) → History → List Step → Type 0
AreMade kind h [] = Unit {0}
AreMade kind h (step ∷ steps) =
    (kind (history h.base h.limits (steps ++ h.journal)) step.what ≡ true) × AreMade kind h steps

-- the history goes on with such steps, which bring in only entries without U+001E
pub record Follows (kind : History → What → Bool) (before after : History) : Type 0 where
  pub steps : List Step
  pub base : after.base ≡ before.base
  pub limits : after.limits ≡ before.limits
  pub journal : after.journal ≡ steps ++ before.journal
  pub own : AreMade kind before steps
  pub clean : AllByRecursion (λ (step : Step). AllPass is_clean (own_entries before.limits step.what)) steps

-- the client is in one of these lists
abbrev pub is_listed : ℕ → List (List ℕ) → Bool
is_listed d lists = list_any (λ ids. list_any (λ e. e == d) ids) lists

-- what was put for each other client that isn't listed is as it was
abbrev pub Spares : ℕ → History → History → List (List ℕ) → Type 0
Spares c before after lists = (d : ℕ) → d ≢ c → is_listed d lists ≡ false
    → placements after.base after.limits after.journal d ≡ placements before.base before.limits before.journal d

-- the history went on for an event of this client that neither opened a client nor took entries of one, and put something
-- for those others alone that are listed
pub record WorksFor (c : ℕ) (before after : History) (lists : List (List ℕ)) : Type 0 where
  pub follows : Follows (is_work c) before after
  pub spares : Spares c before after lists
