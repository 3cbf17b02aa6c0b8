-- From where the entries come that wait for clients: a base has them, or a step brings them in.
use Rattle.std.specs.Prelude.{◌≡◌, ℕ, Bool, true, List, [], ◌∷◌, map}
use Rattle.std.specs.List.{AllByRecursion}
use Rattle.terms.specs.declared.entry.Entry.{Entry}
use Rattle.recovery.specs.PacketLog.{PlainLogged}
use Rattle.journal.specs.declared.step.Step.{Step}
use Rattle.journal.specs.declared.step.What.{What}
use Rattle.journal.specs.declared.step.What.TheVariants.{Attached, Recovered, Cast, Told, AllEnded}
use Rattle.journal.specs.Plain.{Limits, PlainBase, PlainBaseClient}
use Rattle.journal.specs.Log.{log}
use Rattle.journal.specs.Outboxes.{answer, farewell, placements, waiting}

-- the entries that a step brings in by itself: the answer to a CONNECT, a broadcast, what a client
-- is told, a farewell. What a recovery puts beside its answer was in the log before
abbrev pub own_entries : Limits → What → List Entry
own_entries limits (Attached k) = answer limits k ∷ []
own_entries limits (Recovered r) = answer limits r.socket ∷ []
own_entries limits (Cast b) = b.entry ∷ []
own_entries limits (Told m) = m.entry ∷ []
own_entries limits (AllEnded d) = farewell limits d.space ∷ []
own_entries limits _ = []

-- the entry of a logged broadcast
abbrev pub entry_of : PlainLogged → Entry
entry_of e = e.entry

-- each of these entries passes the test
abbrev pub AllPass : (Entry → Bool) → List Entry → Type 0
AllPass good entries = AllByRecursion (λ e. good e ≡ true) entries

-- each entry that the base has, and each that a step brings in by itself, passes the test
pub record BringsOnly (good : Entry → Bool) (base : PlainBase) (limits : Limits)
    (journal : List Step) : Type 0 where
  pub base_clients : AllByRecursion (λ (b : PlainBaseClient). AllPass good b.waiting) base.clients
  pub base_log : AllPass good (map entry_of base.log)
  pub steps : AllByRecursion (λ (step : Step). AllPass good (own_entries limits step.what)) journal

-- each entry passes the test that waits for a client or was put for one, and each of the log
pub record HoldsOnly (good : Entry → Bool) (base : PlainBase) (limits : Limits)
    (journal : List Step) : Type 0 where
  pub waits : (c : ℕ) → AllPass good (waiting base limits journal c)
  pub was_put : (c : ℕ) → AllPass good (placements base limits journal c)
  pub logged : AllPass good (map entry_of (log base limits journal))
