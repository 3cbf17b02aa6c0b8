-- Commands for all sockets of a namespace that match (Socket.IO server documentation, "Server API":
-- `socketsJoin`, `socketsLeave`, `disconnectSockets`).
use Rattle.std.specs.Prelude.{ℕ, ◌==◌, Bool, ◌&&◌, not, List, map, filter}
use Rattle.std.specs.List.{list_any}
use Rattle.std.specs.Ordering.{nat_cmp}
use Rattle.std.specs.FinMap.{keys, from_entries}
use Rattle.terms.specs.Listing.{ListsRising}
use Rattle.room_maps.specs.Membership.{is_in}
use Rattle.journal.specs.declared.socket.Socket.{Socket}
use Rattle.journal.specs.declared.step.Step.{Step}
use Rattle.journal.specs.Plain.{Limits, PlainBase, PlainRoomChange, PlainDismissal}
use Rattle.journal.specs.Journal.{History}
use Rattle.journal.specs.Membership.{sockets, sid_of, rooms, matches}
use Rattle.journal.specs.Outboxes.{farewell, is_full}

-- the ids of the sockets that pass the test, rising
unfoldable pub rising_by : (Socket → ℕ) → (Socket → Bool) → List Socket → List ℕ
rising_by id test ks =
    keys (from_entries {R = nat_cmp} (map (λ (k : Socket). (id k, tt {0})) (filter test ks)))

-- a socket's client
abbrev pub client_of : Socket → ℕ
client_of k = k.client

-- the socket matches, and isn't in the room, or is in it
abbrev pub may_enter :
    PlainBase → List Step → (space : ℕ) → (named excepted : List (List ℕ)) → (room : List ℕ)
    → Socket → Bool
may_enter base journal space named excepted room k =
    matches base journal space named excepted k && not (is_in (rooms base journal) k.sid room)

abbrev pub may_exit :
    PlainBase → List Step → (space : ℕ) → (named excepted : List (List ℕ)) → (room : List ℕ)
    → Socket → Bool
may_exit base journal space named excepted room k =
    matches base journal space named excepted k && is_in (rooms base journal) k.sid room

-- the socket matches, and its client's outbox has space for the farewell
abbrev pub may_hear :
    PlainBase → Limits → List Step → (space : ℕ) → (named excepted : List (List ℕ)) → Socket → Bool
may_hear base limits journal space named excepted k =
    matches base journal space named excepted k
    && not (is_full base limits journal k.client (farewell limits space))

-- ---- what the commands do

-- all that match join the room, or leave it
abbrev pub joining :
    History → (space : ℕ) → (named excepted : List (List ℕ)) → (room : List ℕ) → PlainRoomChange
joining h space named excepted room =
    record {
      space = space;
      rooms = named;
      excepted = excepted;
      room = room;
      changed = rising_by sid_of
          (may_enter h.base h.journal space named excepted room) (sockets h.base h.journal);
    }

abbrev pub leaving :
    History → (space : ℕ) → (named excepted : List (List ℕ)) → (room : List ℕ) → PlainRoomChange
leaving h space named excepted room =
    record {
      space = space;
      rooms = named;
      excepted = excepted;
      room = room;
      changed = rising_by sid_of
          (may_exit h.base h.journal space named excepted room) (sockets h.base h.journal);
    }

-- all that match are told so and end
abbrev pub dismissal : History → (space : ℕ) → (named excepted : List (List ℕ)) → PlainDismissal
dismissal h space named excepted =
    record {
      space = space;
      rooms = named;
      excepted = excepted;
      ended = rising_by sid_of
          (matches h.base h.journal space named excepted) (sockets h.base h.journal);
      told = rising_by client_of
          (may_hear h.base h.limits h.journal space named excepted) (sockets h.base h.journal);
    }

-- ---- what their steps hold

-- the list rises and has just the ids of the connected sockets that pass the test
abbrev pub ListsSockets : (Socket → ℕ) → (Socket → Bool) → List Socket → List ℕ → Type 0
ListsSockets id test ks =
    ListsRising nat_cmp (λ x. list_any (λ (k : Socket). id k == x && test k) ks)

-- those that joined are just those that match and weren't in the room; those
-- that left it were in it
pub record RightJoining (base : PlainBase) (before : List Step) (m : PlainRoomChange) : Type 0 where
  pub changed : ListsSockets sid_of
      (may_enter base before m.space m.rooms m.excepted m.room) (sockets base before) m.changed

pub record RightLeaving (base : PlainBase) (before : List Step) (m : PlainRoomChange) : Type 0 where
  pub changed : ListsSockets sid_of
      (may_exit base before m.space m.rooms m.excepted m.room) (sockets base before) m.changed

-- those that ended are just those that match; of their clients just those were told whose
-- outboxes have space for it
pub record RightDismissal (base : PlainBase) (limits : Limits) (before : List Step)
    (d : PlainDismissal) : Type 0 where
  pub ended : ListsSockets sid_of
      (matches base before d.space d.rooms d.excepted) (sockets base before) d.ended
  pub told : ListsSockets client_of
      (may_hear base limits before d.space d.rooms d.excepted) (sockets base before) d.told
