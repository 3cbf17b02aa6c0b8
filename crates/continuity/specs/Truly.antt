-- When a session's history can be trusted.
use Rattle.std.specs.Prelude.{◌≡◌, ℕ, ◌==◌, Bool, true, false, not, ◌&&◌, ◌||◌, List, [], ◌∷◌, if◌then◌else◌}
use Rattle.std.specs.List.{list_any}
use Rattle.std.specs.Option.{option_map_or}
use Rattle.recovery.specs.PacketLog.{stands}
use Rattle.journal.specs.declared.socket.Socket.{Socket}
use Rattle.journal.specs.declared.step.Step.{Step}
use Rattle.journal.specs.declared.step.What.{What}
use Rattle.journal.specs.declared.step.What.TheVariants.{Recovered, Cast, Parked}
use Rattle.journal.specs.Plain.{Limits, PlainBase, PlainBroadcast}
use Rattle.journal.specs.Membership.{pid_of, has_id, sockets, sockets_of, is_connected}
use Rattle.journal.specs.Log.{log}
use Rattle.continuity.specs.Session.{kept_rooms}
use Rattle.continuity.specs.Heard.{has, given, begins, heard, due_casts}

-- the session began in the journal
unfoldable pub has_begun : List Step → ℕ → Bool
has_begun [] p = false
has_begun (step ∷ before) p = begins p step.what || has_begun before p

-- the client may truly name this offset: it has heard it or, where the session came with the
-- base, the base's log has it
abbrev pub is_true_name : PlainBase → Limits → List Step → ℕ → ℕ → Bool
is_true_name base limits before p o =
    has (heard base limits before p) o
    || (not (has_begun before p) && stands o (log base limits []))

-- ---- the same rooms

-- the step loses the session's socket with its client
abbrev pub loses : PlainBase → List Step → ℕ → What → Bool
loses base before p (Parked c) = list_any (has_id pid_of p) (sockets_of base before c)
loses base before p _ = false

-- the journal up to the step that last lost the session's socket, without that step
unfoldable pub until_lost : PlainBase → List Step → ℕ → List Step
until_lost base [] p = []
until_lost base (step ∷ before) p =
    if loses base before p step.what then before else until_lost base before p

-- at each moment of the journal from the broadcast with this offset on, or from the base on, the
-- session's rooms are these
unfoldable pub KeepsSince : PlainBase → Limits → (p o : ℕ) → (List ℕ → Bool) → List Step → Type 0
KeepsSince base limits p o rooms [] =
    (room : List ℕ) → kept_rooms base limits [] p room ≡ rooms room
KeepsSince base limits p o rooms (step ∷ before) =
    ((room : List ℕ) → kept_rooms base limits (step ∷ before) p room ≡ rooms room)
    × (has (given step.what) o ≡ false → KeepsSince base limits p o rooms before)

-- from the broadcast with this offset, or from the base, to its last loss the
-- session's rooms stayed the same
abbrev pub KeepsItsRooms : PlainBase → Limits → List Step → (p o : ℕ) → Type 0
KeepsItsRooms base limits before p o =
    KeepsSince base limits p o
    (kept_rooms base limits (until_lost base before p) p) (until_lost base before p)

-- ---- the premises

-- the broadcast is logged, and the session's socket misses it since its
-- client's outbox has no space
abbrev pub is_missed_by : PlainBase → List Step → ℕ → PlainBroadcast → Bool
is_missed_by base before p b =
    option_map_or
    (λ o. list_any (λ (k : Socket). k.pid == p && list_any (λ s. s == k.sid) b.dropped)
    (sockets base before))
    b.offset
    false

-- the offset that is named is true, and the rooms stayed the same since
pub record IsTrueReturn (base : PlainBase) (limits : Limits) (before : List Step) (p o : ℕ)
    : Type 0 where
  pub named : is_true_name base limits before p o ≡ true
  pub same_rooms : KeepsItsRooms base limits before p o

-- a recovery of the session is true to what was heard; no logged broadcast
-- drops the session's socket
abbrev pub IsTrueTo : PlainBase → Limits → List Step → ℕ → What → Type 0
IsTrueTo base limits before p (Recovered r) =
    r.socket.pid ≡ p → IsTrueReturn base limits before p r.offset
IsTrueTo base limits before p (Cast b) = is_missed_by base before p b ≡ false
IsTrueTo base limits before p _ = Unit {0}

-- since the session began, or since the base: each time that it came back its client named truly
-- what it got last, and its rooms had stayed the same from that broadcast to the loss; and no full
-- outbox dropped a broadcast for it
unfoldable pub NamesTruly : PlainBase → Limits → List Step → ℕ → Type 0
NamesTruly base limits [] p = Unit {0}
NamesTruly base limits (step ∷ before) p =
    begins p step.what ≡ false
    → (IsTrueTo base limits before p step.what × NamesTruly base limits before p)

-- the session, where it is true so, has heard while it is connected just what is due to it: nothing
-- is missing, nothing came twice, and all is in order
abbrev pub HearsWhatIsDue : PlainBase → Limits → List Step → ℕ → Type 0
HearsWhatIsDue base limits journal p =
    NamesTruly base limits journal p → is_connected pid_of base journal p ≡ true
    → heard base limits journal p ≡ due_casts base limits journal p
