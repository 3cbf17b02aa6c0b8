-- What a pass has counted, and how a hub counts each command together with the pass that it came with.
use Rattle.std.specs.Prelude.{◌≡◌, ℕ, ◌+◌, ◌-◌, ◌<◌, ◌≤◌, [], None, Result, Ok, Err, length}
use Rattle.std.specs.declared.sync.ledger.Blank.{Blank}
use Rattle.journal.specs.declared.error.HubError.{HubError}
use Rattle.journal.specs.declared.error.HubError.TheVariants.{Spent}
use Rattle.journal.specs.declared.answers.Swept.{Swept}
use Rattle.journal.specs.declared.totals.Totals.{Totals}
use Rattle.journal.specs.declared.step.What.{What}
use Rattle.journal.specs.Config.{empty_base}
use Rattle.journal.specs.Journal.{History, history, moment_at, with_step}
use Rattle.journal.specs.Command.{refusal, is_found_late, IsErrorOf}
use Rattle.journal.specs.Plain.{Limits, PlainCast, PlainCastDone}
use Rattle.journal.specs.Casting.{refusal_of, IsCast, IsCastError}
use Rattle.journal.specs.Totals as totals
use Rattle.hub_state.specs.Words.{logs, saves}
use Rattle.hub_totals.specs.declared.books.NotAll.{NotAll}

-- a ledger with this name that nothing was added to, cut into 65,536 parts
abbrev pub IsBlankOf : (name parts : ℕ) → Blank → Type 0
IsBlankOf name parts blank = (blank.name ≡ name) × (blank.parts ≡ parts) × (blank.parts ≡ 65536)

-- a total, and how many parts of its ledger no holder was given
pub record PlainCounter : Type 0 where
  pub total : ℕ
  pub rest : ℕ

-- what one holder added to a total, and how many parts of its ledger it has
pub record PlainPart : Type 0 where
  pub amount : ℕ
  pub parts : ℕ

-- the commands that were accepted with a pass, the entries that they handed out, and how many parts of each of both
-- ledgers the pass has
pub record PlainPass : Type 0 where
  pub commands : ℕ
  pub taken : ℕ
  pub parts : ℕ

-- the totals of both ledgers, and how many parts of each no pass was given
pub record PlainBooks : Type 0 where
  pub commands : ℕ
  pub taken : ℕ
  pub rest : ℕ

-- the books of this history
abbrev pub books_of : History → (rest : ℕ) → PlainBooks
books_of h rest = record { commands = totals.commands h.base h.journal; taken = totals.handed_out h.base h.journal; rest = rest }

-- a pass that has counted nothing
abbrev pub new_pass : PlainPass
new_pass = record { commands = 0; taken = 0; parts = 1 }

-- a pass is made of the rest's parts, or is refused where the rest has its last one alone
abbrev pub GivesPass : (old : ℕ) → Result PlainPass HubError → (new : ℕ) → Type 0
GivesPass old (Ok pass) new = (pass ≡ new_pass) × (1 < old) × (new ≡ old - 1)
GivesPass old (Err e) new = (e ≡ Spent) × (old ≡ 1) × (new ≡ old)

-- a hub's history, and how many parts of each ledger no pass was given
pub record PlainHub : Type 0 where
  pub history : History
  pub rest : ℕ

-- a hub with no clients and no steps, whose first pass has a part
abbrev pub new_hub : Limits → PlainHub
new_hub config = record { history = history (empty_base config.first_offset) config []; rest = 65535 }

-- the commands of a hub's whole history, and the entries that they handed out
abbrev pub commands_of : PlainHub → ℕ
commands_of hub = totals.commands hub.history.base hub.history.journal

abbrev pub taken_of : PlainHub → ℕ
taken_of hub = totals.handed_out hub.history.base hub.history.journal

-- so many entries of the log and so many saved sessions are gone
abbrev pub Drops : Swept → (before after : History) → Type 0
Drops swept h g =
    (length (logs h) ≡ length (logs g) + swept.log) × (length (saves h) ≡ length (saves g) + swept.saved)

-- the pass with one command more, which did this
abbrev pub with_command : What → PlainPass → PlainPass
with_command what pass = record pass { commands = pass.commands + 1; taken = pass.taken + totals.handed_out_by what }

-- the command that makes this step was answered as `Does` says; where it was accepted, its pass counts it, and else
-- both hub and pass are as before
abbrev pub DoesCounted : {X : Type 0}
    → (before after : PlainHub) → (old new : PlainPass) → ℕ → What → Result X HubError → Type 0
DoesCounted before after old new now what (Ok x) =
    (refusal before.history (moment_at before.history now) what ≡ None)
    × (after ≡ record before { history = with_step before.history now what }) × (new ≡ with_command what old)
DoesCounted before after old new now what (Err e) =
    IsErrorOf (is_found_late before.history.limits what) (refusal before.history (moment_at before.history now) what) e
    × (after ≡ before) × (new ≡ old)

-- the cast was answered as `CastDoes` says; where it was accepted, its pass counts it, and else both hub and pass are
-- as before
abbrev pub CastDoesCounted : (before after : PlainHub)
    → (old new : PlainPass) → ℕ → PlainCast → Result PlainCastDone HubError → Type 0
CastDoesCounted before after old new now c (Ok done) =
    (refusal_of before.history c ≡ None) × IsCast before.history after.history now c done
    × (after.rest ≡ before.rest) × (new ≡ record old { commands = old.commands + 1 })
CastDoesCounted before after old new now c (Err e) =
    IsCastError before.history c (refusal_of before.history c) e × (after ≡ before) × (new ≡ old)

-- the pass rises by as much as the hub's totals
pub record Rises (before after : PlainHub) (old new : PlainPass) : Type 0 where
  pub commands : new.commands + commands_of before ≡ old.commands + commands_of after
  pub taken : new.taken + taken_of before ≡ old.taken + taken_of after
  pub parts : new.parts ≡ old.parts

-- the hub's totals, where the pass has counted all of its commands and all that they handed out; else what the pass
-- lacks of these, which isn't nothing
abbrev pub Settles : PlainHub → PlainPass → Result Totals NotAll → Type 0
Settles hub pass (Ok all) =
    (all ≡ totals.totals hub.history.base hub.history.limits hub.history.journal)
    × (pass.commands ≡ commands_of hub) × (pass.taken ≡ taken_of hub)
Settles hub pass (Err lack) =
    (pass.commands + lack.commands ≡ commands_of hub) × (pass.taken + lack.taken ≡ taken_of hub)
    × (0 < lack.commands + lack.taken)

-- the hub's totals are u64s, and at least what the pass has counted
pub record AtLeast (hub : PlainHub) (pass : PlainPass) : Type 0 where
  pub commands : pass.commands ≤ commands_of hub
  pub taken : pass.taken ≤ taken_of hub
  pub fits : (commands_of hub ≤ 18446744073709551615) × (taken_of hub ≤ 18446744073709551615)
