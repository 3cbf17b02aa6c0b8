-- Nothing that a hub holds goes past its limits.
use Rattle.std.specs.Prelude.{ℕ, ◌≤◌, List, length}
use Rattle.journal.specs.declared.step.Step.{Step}
use Rattle.journal.specs.Plain.{Limits, PlainBase}
use Rattle.journal.specs.Membership.{open_clients}
use Rattle.journal.specs.Sessions.{sessions}
use Rattle.journal.specs.Outboxes.{waiting, total_size}

-- no more clients are open and no more sessions saved than there may be, and for no client
-- wait more entries or bytes
pub record IsWithin (base : PlainBase) (limits : Limits) (journal : List Step) : Type 0 where
  pub clients : length (open_clients base journal) ≤ limits.clients
  pub saved : length (sessions base limits journal) ≤ limits.saved
  pub entries : (c : ℕ) → length (waiting base limits journal c) ≤ limits.capacity
  pub bytes : (c : ℕ) → total_size (waiting base limits journal c) ≤ limits.bytes
