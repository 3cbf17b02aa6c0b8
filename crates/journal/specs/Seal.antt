-- What a seal keeps: the present state becomes the base, and what is said of
-- the hub stays the same.
use Rattle.std.specs.Prelude.{◌≡◌, ℕ, true, List, [], ◌∷◌, map, Option, None, Some, Result, Ok, Err}
use Rattle.std.specs.Ordering.{nat_cmp}
use Rattle.terms.specs.Listing.{ListsRising}
use Rattle.room_maps.specs.Membership.{pair_cmp, is_in}
use Rattle.journal.specs.declared.error.HubError.{HubError}
use Rattle.journal.specs.declared.error.HubError.TheVariants.{Memory}
use Rattle.journal.specs.declared.socket.Socket.{Socket}
use Rattle.journal.specs.declared.step.Step.{Step}
use Rattle.journal.specs.declared.step.What.{What}
use Rattle.journal.specs.Plain.{Limits, PlainBase, PlainBaseClient, PlainClient}
use Rattle.journal.specs.Journal.{History, moment, moment_at}
use Rattle.journal.specs.Membership.{is_open, socket_with, sid_of, pid_of, sockets_of, rooms}
use Rattle.journal.specs.Sessions.{sessions}
use Rattle.journal.specs.Log.{log, next}
use Rattle.journal.specs.Outboxes.{waiting}
use Rattle.journal.specs.Totals.{totals}
use Rattle.journal.specs.Legal.{IsAllowed, IsSound, IsLegal}

-- a base and the steps since then, up to a seal
pub record PlainEpoch : Type 0 where
  pub base : PlainBase
  pub journal : List Step

-- the namespace, the id and the private id of a socket
abbrev pub ids_of : Socket → ℕ × ℕ × ℕ
ids_of k = (k.space, k.sid, k.pid)

-- the id of a client of a base
abbrev pub client_of : PlainBaseClient → ℕ
client_of b = b.client

-- a client with its sockets and what waits for it
abbrev pub base_client : PlainBase → Limits → List Step → ℕ → PlainBaseClient
base_client base limits journal c =
    record {
      client = c;
      sockets = map ids_of (sockets_of base journal c);
      waiting = waiting base limits journal c;
    }

-- what a hub holds of a client, as a base has it
abbrev pub base_of : ℕ × PlainClient → PlainBaseClient
base_of e = record { client = e.0; sockets = map ids_of e.1.sockets; waiting = e.1.outbox.waiting }

-- a client, if it is known, as a base has it
abbrev pub base_at : ℕ → Option PlainClient → List PlainBaseClient
base_at c None = []
base_at c (Some x) = base_of (c, x) ∷ []

-- `after` is the state to which this base and this journal lead: its clients rise and are
-- just the open ones, each with its sockets and what waits for it, and its pairs rise and are
-- just those of the rooms
pub record LeadsTo (base : PlainBase) (limits : Limits) (journal : List Step) (after : PlainBase)
    : Type 0 where
  pub at_is : after.at ≡ moment base journal
  pub next_is : after.next ≡ next base journal
  pub clients_open : ListsRising nat_cmp (is_open base journal) (map client_of after.clients)
  pub clients_are : after.clients
      ≡ map (base_client base limits journal) (map client_of after.clients)
  pub pairs_are : ListsRising pair_cmp
      (λ pair. is_in (rooms base journal) pair.0 pair.1) after.pairs
  pub log_is : after.log ≡ log base limits journal
  pub saved_is : after.saved ≡ sessions base limits journal
  pub totals_are : after.totals ≡ totals base limits journal

-- the new history begins at the state to which the old one leads
pub record IsSealed (before after : History) : Type 0 where
  pub same_limits : after.limits ≡ before.limits
  pub no_steps : after.journal ≡ []
  pub leads : LeadsTo before.base before.limits before.journal after.base

-- both histories say the same of the limits and the moment, of each client, socket and room, of
-- what waits for open clients, of the log, the saved sessions and the totals
pub record SaysTheSame (before after : History) : Type 0 where
  pub same_limits : after.limits ≡ before.limits
  pub same_moment : moment after.base after.journal ≡ moment before.base before.journal
  pub same_open : (c : ℕ)
      → is_open after.base after.journal c ≡ is_open before.base before.journal c
  pub same_sockets : (c : ℕ)
      → sockets_of after.base after.journal c ≡ sockets_of before.base before.journal c
  pub same_by_sid : (s : ℕ) → socket_with sid_of after.base after.journal s
      ≡ socket_with sid_of before.base before.journal s
  pub same_by_pid : (p : ℕ) → socket_with pid_of after.base after.journal p
      ≡ socket_with pid_of before.base before.journal p
  pub same_waiting : (c : ℕ) → is_open before.base before.journal c ≡ true
      → waiting after.base after.limits after.journal c
      ≡ waiting before.base before.limits before.journal c
  pub same_rooms : rooms after.base after.journal ≡ rooms before.base before.journal
  pub same_sessions : sessions after.base after.limits after.journal
      ≡ sessions before.base before.limits before.journal
  pub same_log : log after.base after.limits after.journal
      ≡ log before.base before.limits before.journal
  pub same_next : next after.base after.journal ≡ next before.base before.journal
  pub same_totals : totals after.base after.limits after.journal
      ≡ totals before.base before.limits before.journal

-- the epoch is all that the history had, each step of it was allowed, and the
-- new history says the same
pub record SealsAs (before : History) (epoch : PlainEpoch) (after : History) : Type 0 where
  pub epoch_is : epoch ≡ record { base = before.base; journal = before.journal }
  pub legal : IsLegal before.base before.limits before.journal
  pub sealed : IsSealed before after
  pub same : SaysTheSame before after

-- a seal is refused for want of memory alone, and changes nothing then
abbrev pub Seals : History → Result PlainEpoch HubError → History → Type 0
Seals before (Ok epoch) after = SealsAs before epoch after
Seals before (Err e) after = (e ≡ Memory) × (after ≡ before)

-- ---- steps after two such histories

-- a hub may have this history
abbrev pub IsLegalAndSound : History → Type 0
IsLegalAndSound h = IsLegal h.base h.limits h.journal × IsSound h.base h.limits h.journal

-- a step that is made now is allowed by the history
abbrev pub MayFollow : History → ℕ → What → Type 0
MayFollow h now what =
    IsAllowed h.base h.limits h.journal (record { at = moment_at h now; what = what }) what
