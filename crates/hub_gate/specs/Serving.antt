-- Which peers each worker of a pool is dealt, what the pool reports, and when it is refused.
use Rattle.std.specs.Prelude.{◌≡◌, ℕ, ◌<◌, ◌≤◌, ◌%◌, ◌==◌, List, Some, Ok, Err, filter, length, map, min, slice_get}
use Rattle.std.specs.List.{FoldsTo, enumerate_from}
use Rattle.journal.specs.declared.totals.Totals.{Totals}
use Rattle.hub_totals.specs.declared.books.NotAll.{NotAll}
use Rattle.hub_totals.specs.Pass.{PlainPass, Settles, new_pass}
use Rattle.events.specs.App.{Policy}
use Rattle.dispatch.specs.Holding.{PlainCore}
use Rattle.hub_gate.specs.declared.worker.WorkerCounts.{WorkerCounts}
use Rattle.hub_gate.specs.Turns.{Desk, Gives, Handled, Hears, ServesAll, desk, failures}
use Rattle.hub_gate.specs.declared.serve.ServeError.{ServeError}
use Rattle.hub_gate.specs.declared.serve.ServeError.TheVariants as refused
use Rattle.hub_gate.specs.Facts.{IsSoundCore}

-- of items with their numbers, those that worker w of so many is dealt: the numbers modulo that of the workers are w
abbrev pub of_worker : {P : Type 0} → (workers w : ℕ) → List (ℕ × P) → List P
of_worker workers w items = map (λ item. item.1) (filter (λ item. item.0 % workers == w) items)

-- item i is dealt to worker i modulo their number
abbrev pub dealt : {P : Type 0} → (workers : ℕ) → List P → (w : ℕ) → List P
dealt workers items w = of_worker workers w (enumerate_from 0 items)

-- each of the queues holds what is dealt to it, of so many
abbrev pub AreDealt : {P : Type 0} → (workers : ℕ) → List P → List (List P) → Type 0
AreDealt {P} workers items queues =
    (w : ℕ) (queue : List P) → slice_get queues w ≡ Some queue → queue ≡ dealt workers items w

-- the totals of this core, which is sound, and of which the pass has counted all
abbrev pub AreCounted : PlainPass → PlainCore → Totals → Type 0
AreCounted pass core counted = IsSoundCore core × Settles core.hub pass (Ok counted)

-- what the pass lacks of a core's totals, which isn't nothing
abbrev pub IsLacking : PlainPass → NotAll → Type 0
IsLacking pass lack = (core : PlainCore) × IsSoundCore core × Settles core.hub pass (Err lack)

-- the number of workers is one that a pool may have
abbrev pub MayBe : ℕ → Type 0
MayBe workers = (0 < workers) × (workers ≤ 1024)

-- each refusal comes where its condition holds; but for `NotAll`, the pass is as before
abbrev pub IsRefused : (workers : ℕ) → (old new : PlainPass) → ServeError → Type 0
IsRefused workers old new refused.NoWorkers = (workers ≡ 0) × (new ≡ old)
IsRefused workers old new refused.TooManyWorkers = (1024 < workers) × (new ≡ old)
IsRefused workers old new (refused.NotAll lack) = MayBe workers × IsLacking new lack
IsRefused workers old new _ = MayBe workers × (new ≡ old)

-- what the workers need can't be made: there is no memory, or no pass
abbrev pub IsFromMaking : ServeError → Type 0
IsFromMaking refused.Memory = Unit {0}
IsFromMaking refused.Spent = Unit {0}
IsFromMaking _ = ⊥

-- no worker could be started: there is no memory, or no thread
abbrev pub IsFromStarting : ServeError → Type 0
IsFromStarting refused.Memory = Unit {0}
IsFromStarting refused.Spawn = Unit {0}
IsFromStarting _ = ⊥

-- the pass lacks this
abbrev pub IsLackingFor : PlainPass → ServeError → Type 0
IsLackingFor pass (refused.NotAll lack) = IsLacking pass lack
IsLackingFor pass _ = ⊥

module _ {P : Type 0} (gives : Gives P) (hears : Hears P) (policy : Policy) where
  -- a worker served these peers, and no others, in this order, with a pass of its own and its own ids; its counts are
  -- what the pass has then, how many peers there were and how many failed
  pub record WorksAs (turns : ℕ) (peers : List P) (ids : ℕ → ℕ) (counts : WorkerCounts) : Type 0 where
    pub handled : List (Handled P)
    pub end : Desk
    pub given : map (λ h. h.given) handled ≡ peers
    pub served : FoldsTo (λ (d : Desk) (h : Handled P) (e : Desk).
        ServesAll gives hears policy turns (h.given, d) h.failed (h.left, e)) (desk new_pass ids) handled end
    pub commands : counts.commands ≡ end.pass.commands
    pub taken : counts.taken ≡ end.pass.taken
    pub peers_are : counts.peers ≡ min (length peers) 18446744073709551615
    pub faults_are : counts.faults ≡ min (failures handled) 18446744073709551615

  -- worker w of so many served the peers that were dealt to it, with the source of ids of this index, and its counts
  -- stand at this index
  abbrev pub AreServed : {I : Type 0} → (I → ℕ → ℕ) → (turns workers : ℕ) → List P → List I → List WorkerCounts → Type 0
  AreServed {I} stream turns workers peers ids all = (w : ℕ) (own : I) (counts : WorkerCounts)
      → slice_get ids w ≡ Some own → slice_get all w ≡ Some counts → WorksAs turns (dealt workers peers w) (stream own) counts
