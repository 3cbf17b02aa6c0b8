-- What a worker does with its pass, its ids and its peers.
use Rattle.std.specs.Prelude.{◌≡◌, ◌⊎◌, ℕ, ◌≤◌, ◌&&◌, Bool, true, false, Option, Some, None, option_map, Result, Ok, Err, IfOk, is_ok, List, [], ◌∷◌, ◌++◌, length, map, min, sum_by, if◌then◌else◌}
use Rattle.std.specs.Iterator.{Drains}
use Rattle.std.specs.Option.{option_or}
use Rattle.std.specs.List.{FoldsTo}
use Rattle.events.specs.App.{Policy}
use Rattle.dispatch.specs.Following.{Spares}
use Rattle.dispatch.specs.Counting.{TurnsFor}
use Rattle.hub_totals.specs.Pass.{PlainPass, AtLeast}
use Rattle.events.specs.declared.event.Event.{Event}
use Rattle.events.specs.declared.event.Event.TheVariants as event
use Rattle.events.specs.declared.outcome.Outcome.TheVariants as outcome
use Rattle.events.specs.Answer.{Answer}
use Rattle.events.specs.Event.{client_of}
use Rattle.dispatch.specs.Handed as core
use Rattle.dispatch.specs.Handed.{Handed}
use Rattle.dispatch.specs.Machine.{Does, IsOf, listed}
use Rattle.dispatch.specs.Holding.{PlainCore, standing}
use Rattle.events.specs.declared.peer.PeerFault.{PeerFault}
use Rattle.hub_gate.specs.Facts.{IsSoundCore}
use Rattle.events.specs.Loss.{AreTries}

-- what a worker works with: its pass, and the ids that its source will give
pub record Desk : Type 0 where
  pub pass : PlainPass
  pub ids : ℕ → ℕ

abbrev pub desk : PlainPass → (ids : ℕ → ℕ) → Desk
desk pass ids = record { pass = pass; ids = ids }

module _ (policy : Policy) where
  -- the event was applied to a core at its moment, with the worker's ids, and counted in its pass. The core was sound,
  -- and is again; both times it had counted at least what the pass had, and by the turn its journal only grew, by the
  -- steps that the pass counts
  pub record Applied (event : Event) (now : ℕ)
      (before : PlainCore) (old : Desk) (got : Answer) (after : PlainCore) (new : Desk) : Type 0 where
    pub does : Does policy before.told now event
        (standing before.hub.history before.lines old.ids) got (standing after.hub.history after.lines new.ids)
    pub settings : after.told ≡ before.told
    pub handed : (c : ℕ) (turns : List core.Turn) → Handed c turns before.hub.history → Handed c ((event, got) ∷ turns) after.hub.history
    pub turns : (c : ℕ) → IsOf event old.ids c → TurnsFor c before.hub after.hub old.pass new.pass
    pub spares : IfOk got (λ o. (c : ℕ) → IsOf event old.ids c → Spares c before.hub.history after.hub.history (listed o))
    pub sound_before : IsSoundCore before
    pub sound_after : IsSoundCore after
    pub at_least_before : AtLeast before.hub old.pass
    pub at_least_after : AtLeast after.hub new.pass

-- ---- a connection that is lost

-- the client that was opened
abbrev pub opened_in : Answer → Option ℕ
opened_in (Ok (outcome.Opened o)) = Some o.client
opened_in _ = None

-- the client whom a fault loses that follows: the event's own, or the one that was opened
abbrev pub lost_by : Event → Answer → Option ℕ
lost_by happened got = option_or (client_of happened) (opened_in got)

-- a turn at the core that a worker takes of its own: the core as it was lent, the answer, and the core as it was given back
pub record Attempt : Type 0 where
  pub before : PlainCore
  pub got : Answer
  pub after : PlainCore

module _ (policy : Policy) where
  -- the core was told that the client's connection is lost, up to three times until it accepted that
  pub record TellsLost (client now : ℕ) (old new : Desk) : Type 0 where
    pub attempts : List Attempt
    pub told : FoldsTo (λ (d : Desk) (a : Attempt) (e : Desk).
        Applied policy (event.TransportLost client) now a.before d a.got a.after e) old attempts new
    pub tries : AreTries (map (λ a. a.got) attempts)

  -- where no peer failed, or there is no such client, nothing was done
  abbrev pub TellsWhere : (failed : Bool) → Option (ℕ × ℕ) → Desk → Desk → Type 0
  TellsWhere true (Some lost) old new = TellsLost lost.0 lost.1 old new
  TellsWhere true None old new = new ≡ old
  TellsWhere false lost old new = new ≡ old

-- ---- one peer

-- one turn of a peer: its event and moment, the core as it was lent, the answer, the core as it was given back, and
-- whether the peer heard the answer
pub record Turn : Type 0 where
  pub event : Event
  pub now : ℕ
  pub before : PlainCore
  pub got : Answer
  pub after : PlainCore
  pub heard : Bool

-- the client of the last turn, with its moment
abbrev pub last_client : Option (ℕ × ℕ) → List Turn → Option (ℕ × ℕ)
last_client known [] = known
last_client known (r ∷ served) = last_client (option_map (λ c. (c, r.now)) (lost_by r.event r.got)) served

-- each answer was heard
abbrev pub all_heard : List Turn → Bool
all_heard [] = true
all_heard (r ∷ served) = r.heard && all_heard served

-- the answer of the last turn wasn't heard, and each before it was
abbrev pub IsUnheard : List Turn → Type 0
IsUnheard served = (before : List Turn) × (last : Turn) × (served ≡ before ++ last ∷ []) × (all_heard before ≡ true) × (last.heard ≡ false)

-- how peers give their next event, and how they hear an answer
abbrev pub Gives : Type 0 → Type 1
Gives P = P → Result (Option (Event × ℕ)) PeerFault → P → Type 0

abbrev pub Hears : Type 0 → Type 1
Hears P = P → Answer → Result (Unit {0}) PeerFault → P → Type 0

module _ {P : Type 0} (gives : Gives P) (hears : Hears P) (policy : Policy) where
  -- the peer gave the event, it was applied to the core as it was lent, and the peer heard that very answer
  pub record Serves (old : P × Desk) (r : Turn) (new : P × Desk) : Type 0 where
    pub asking : P
    pub gave : gives old.0 (Ok (Some (r.event, r.now))) asking
    pub applied : Applied policy r.event r.now r.before old.1 r.got r.after new.1
    pub reply : Result (Unit {0}) PeerFault
    pub heard_is : r.heard ≡ is_ok reply
    pub told : hears asking r.got reply new.0

  -- how it ends with a peer: it heard each answer, and has no more events, or fails by its own fault or since its turns are
  -- spent; or it didn't hear the last one
  abbrev pub Ends : (turns : ℕ) → List Turn → P → (failed : Bool) → P → Type 0
  Ends turns served last false new = (all_heard served ≡ true) × gives last (Ok None) new
  Ends turns served last true new = ((all_heard served ≡ true) × (fault : PeerFault) × gives last (Err fault) new)
      ⊎ ((new ≡ last) × (IsUnheard served ⊎ ((all_heard served ≡ true) × (length served ≡ turns))))

  -- the peer's events, and no others, were applied in turn, until it ended; so many of them at the most
  pub record Talks (turns : ℕ) (old : P × Desk) (failed : Bool) (lost : Option (ℕ × ℕ)) (new : P × Desk) : Type 0 where
    pub served : List Turn
    pub last : P
    pub talks : FoldsTo Serves old served (last, new.1)
    pub within : length served ≤ turns
    pub ends : Ends turns served last failed new.0
    pub lost_is : lost ≡ last_client None served

  -- the peer was served to its end; where it failed, the core was told that its client's connection is lost
  pub record ServesAll (turns : ℕ) (old : P × Desk) (failed : Bool) (new : P × Desk) : Type 0 where
    pub lost : Option (ℕ × ℕ)
    pub between : Desk
    pub talk : Talks turns old failed lost (new.0, between)
    pub told : TellsWhere policy failed lost between new.1

-- ---- one worker

-- a peer that a worker was given, whether it failed, and what became of it
pub record Handled (P : Type 0) : Type 0 where
  pub given : P
  pub failed : Bool
  pub left : P

-- how many of them failed
abbrev pub failures : {P : Type 0} → List (Handled P) → ℕ
failures handled = sum_by (λ h. (if h.failed then 1 else 0)) handled

module _ {P S : Type 0} (next_gives : S → Option P → S → Type 0) (gives : Gives P) (hears : Hears P) (policy : Policy) where
  -- the worker served all peers of its source, each with its desk as the one before left it, and counted them; the
  -- counts stay at the greatest usize
  pub record WorksOff (turns : ℕ) (source : S) (old : Desk) (peers faults : ℕ) (new : Desk) : Type 0 where
    pub handled : List (Handled P)
    pub given : Drains next_gives source (map (λ h. h.given) handled)
    pub served : FoldsTo (λ (d : Desk) (h : Handled P) (e : Desk).
        ServesAll gives hears policy turns (h.given, d) h.failed (h.left, e)) old handled new
    pub peers_is : peers ≡ min (length handled) 18446744073709551615
    pub faults_is : faults ≡ min (failures handled) 18446744073709551615
