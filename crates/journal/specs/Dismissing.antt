-- The lists from which many sockets of a namespace are ended (Socket.IO server documentation,
-- "Server API": `disconnectSockets`).
use Rattle.std.specs.Prelude.{◌≡◌, ℕ, Bool, ◌&&◌, List, map}
use Rattle.std.specs.List.{list_any}
use Rattle.std.specs.List.Sorted.{IsStrictlySortedBy}
use Rattle.std.specs.Ordering.{nat_cmp}
use Rattle.journal.specs.declared.socket.Socket.{Socket}
use Rattle.journal.specs.declared.step.Step.{Step}
use Rattle.journal.specs.Plain.{Limits, PlainBase, PlainDismissal, PlainMessage}
use Rattle.journal.specs.Membership.{sockets, sid_of, matches}
use Rattle.journal.specs.Outboxes.{farewell}
use Rattle.journal.specs.ManySockets.{RightDismissal}
use Rattle.journal.specs.Legal.{EachTwo, AreApart}
use Rattle.journal.specs.Fields.{client_at}
use Rattle.journal.specs.Casting.{messages_for}

-- the list has just the connected sockets that match, rising by their session ids
pub record ListsMatching (base : PlainBase) (journal : List Step) (space : ℕ)
    (named excepted : List (List ℕ)) (ks : List Socket) : Type 0 where
  pub rises : IsStrictlySortedBy nat_cmp (map sid_of ks)
  pub apart : EachTwo AreApart ks
  pub exactly : (p : Socket → Bool) → list_any p ks
      ≡ list_any (λ k. p k && matches base journal space named excepted k) (sockets base journal)

-- the dismissal is right, these are the sockets that it ends, and these messages tell their clients
pub record Dismisses (base : PlainBase) (limits : Limits) (before : List Step) (d : PlainDismissal)
    (ks : List Socket) (messages : List PlainMessage) : Type 0 where
  pub right : RightDismissal base limits before d
  pub matching : ListsMatching base before d.space d.rooms d.excepted ks
  pub farewells : messages
      ≡ messages_for (client_at base limits before) (farewell limits d.space) ks
