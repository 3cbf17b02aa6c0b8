-- Which journals a hub may have, and what a base may be.
use Rattle.std.specs.Prelude.{◌≡◌, ◌≢◌, ℕ, ◌≤◌, ◌==◌, min, true, false, nat_eq, List, [], ◌∷◌, length, None, Some, IfSome}
use Rattle.std.specs.List.{list_any, IsDistinct, AllByRecursion}
use Rattle.recovery.specs.PacketLog.{IsRun, Rises, latest}
use Rattle.recovery.specs.SavedTable.{PlainSaved}
use Rattle.recovery.specs.Missed.{missed}
use Rattle.room_maps.specs.Membership.{AreConsistent, is_socket, are_too_many}
use Rattle.journal.specs.declared.socket.Socket.{Socket}
use Rattle.journal.specs.declared.step.Step.{Step}
use Rattle.journal.specs.declared.step.What.{What}
use Rattle.journal.specs.declared.step.What.TheVariants.{Recovered, AllJoined, AllLeft, Cast, Took, AllEnded}
use Rattle.journal.specs.Plain.{Limits, PlainBase, PlainRecovery, PlainBroadcast}
use Rattle.journal.specs.Journal.{history, moment}
use Rattle.journal.specs.Membership.{open_clients, is_open, sockets, sid_of, is_connected, rooms, is_space}
use Rattle.journal.specs.Sessions.{sessions, session_with}
use Rattle.journal.specs.Log.{log, log_calls, next, next_number}
use Rattle.journal.specs.Outboxes.{waiting}
use Rattle.journal.specs.Broadcast.{RightCast, IsOfAForm}
use Rattle.journal.specs.Totals.{IsConserved}
use Rattle.journal.specs.ManySockets.{RightJoining, RightLeaving, RightDismissal}
use Rattle.journal.specs.Command.{refusal}

-- a recovery brings back what was saved: the socket's ids and rooms, and the
-- offsets of what it missed
pub record RightRecovery (base : PlainBase) (limits : Limits) (before : List Step)
    (r : PlainRecovery) : Type 0 where
  pub lost_at : ℕ
  pub session : session_with r.socket.pid (sessions base limits before)
      ≡ Some (record {
        sid = r.socket.sid;
        pid = r.socket.pid;
        space = r.socket.space;
        rooms = r.rooms;
        lost_at = lost_at;
      })
  pub missed_is : r.missed ≡ missed r.offset r.socket.space r.rooms (log base limits before)

-- a broadcast is the text of a form, has the next offset where it has one, and
-- reaches whom it is for
pub record RightBroadcast (base : PlainBase) (limits : Limits) (before : List Step)
    (step : Step) (b : PlainBroadcast) : Type 0 where
  pub formed : IsOfAForm limits b
  pub offset : IfSome b.offset (λ offset. next base before ≡ Some offset)
  pub cast : RightCast base limits before step b

-- what a step tells is right
abbrev pub IsRight : PlainBase → Limits → List Step → Step → What → Type 0
IsRight base limits before step (Recovered r) = RightRecovery base limits before r
IsRight base limits before step (AllJoined m) = RightJoining base before m
IsRight base limits before step (AllLeft m) = RightLeaving base before m
IsRight base limits before step (Cast b) = RightBroadcast base limits before step b
IsRight base limits before step (Took c most n) =
    n ≡ min most (length (waiting base limits before c))
IsRight base limits before step (AllEnded d) = RightDismissal base limits before d
IsRight base limits before step _ = Unit {0}

-- what must hold before a step: its command isn't refused, and what it tells is right
abbrev pub IsAllowed : PlainBase → Limits → List Step → Step → What → Type 0
IsAllowed base limits before step what =
    (refusal (history base limits before) step.at what ≡ None)
    × IsRight base limits before step what

-- ---- what is so in every legal journal

-- no two sockets have an id together, and none two of one client are in one namespace
abbrev pub AreApart : Socket → Socket → Type 0
AreApart k l = (k.sid ≢ l.sid) × (k.pid ≢ l.pid) × ((k.client ≡ l.client) → (k.space ≢ l.space))

-- no saved session has an id of a connected socket
abbrev pub IsAway : List Socket → PlainSaved → Type 0
IsAway connected s =
    (list_any (λ (k : Socket). k.sid == s.sid) connected ≡ false)
    × (list_any (λ (k : Socket). k.pid == s.pid) connected ≡ false)

-- no two saved sessions have an id together
abbrev pub DifferInIds : PlainSaved → PlainSaved → Type 0
DifferInIds s t = (s.sid ≢ t.sid) × (s.pid ≢ t.pid)

-- each two of the list stand in this relation
unfoldable pub EachTwo : {X : Type 0} → (X → X → Type 0) → List X → Type 0
EachTwo R [] = Unit {0}
EachTwo R (x ∷ xs) = AllByRecursion (R x) xs × EachTwo R xs

-- clients are open once; sockets are apart, in a namespace of the hub and of open clients, and just
-- they are in rooms, each in its own; no session is both saved and connected, and saved ones have
-- different ids and at most 256 rooms; offsets of the log rise by one and end below the next, and
-- its moments never fall
pub record IsSound (base : PlainBase) (limits : Limits) (journal : List Step) : Type 0 where
  pub few_spaces : length limits.spaces ≤ 65536
  pub clients_once : IsDistinct nat_eq (open_clients base journal)
  pub sockets_apart : EachTwo AreApart (sockets base journal)
  pub of_open_clients : AllByRecursion
      (λ (k : Socket). is_open base journal k.client ≡ true) (sockets base journal)
  pub in_spaces : AllByRecursion
      (λ (k : Socket). is_space limits k.space ≡ true) (sockets base journal)
  pub seated : (s : ℕ) → is_socket (rooms base journal) s ≡ is_connected sid_of base journal s
  pub rooms_agree : AreConsistent (rooms base journal)
  pub apart : AllByRecursion (IsAway (sockets base journal)) (sessions base limits journal)
  pub sessions_differ : EachTwo DifferInIds (sessions base limits journal)
  pub few_rooms : AllByRecursion
      (λ (s : PlainSaved). are_too_many s.sid s.rooms ≡ false) (sessions base limits journal)
  pub offsets_rise : IsRun (next_number base journal) (log base limits journal)
  pub log_rises : Rises (log_calls base limits journal)
  pub log_late : latest (log_calls base limits journal) ≤ moment base journal
  pub conserved : IsConserved base limits journal

-- each step was allowed by those before it, and moments never fall; the base is sound
unfoldable pub IsLegal : PlainBase → Limits → List Step → Type 0
IsLegal base limits [] = IsSound base limits []
IsLegal base limits (step ∷ before) =
    IsAllowed base limits before step step.what
    × (moment base before ≤ step.at) × IsLegal base limits before
