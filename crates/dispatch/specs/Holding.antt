-- What a core holds: the hub's history, and a line for each client that is open.
use Rattle.std.specs.Prelude.{◌≡◌, ℕ, ◌==◌, nat_eq, false, List, [], Option, None, Some, is_some}
use Rattle.std.specs.List.{AllByRecursion}
use Rattle.std.specs.Map.{lookup}
use Rattle.eio_wire.specs.Payload.{IsWhole}
use Rattle.connection.specs.Line.{PlainLine}
use Rattle.journal.specs.Plain.{Limits}
use Rattle.journal.specs.Config.{empty_base}
use Rattle.journal.specs.Journal.{History}
use Rattle.journal.specs.Membership.{is_open}
use Rattle.journal.specs.Entries.{BringsOnly}
use Rattle.hub_totals.specs.Pass.{new_pass, PlainHub, PlainPass}
use Rattle.dispatch.specs.Following.{is_clean}
use Rattle.dispatch.specs.declared.clients.Handshake.{Handshake}

-- the hub, the lines by their clients, and what each new client is told
pub record PlainCore : Type 0 where
  pub hub : PlainHub
  pub lines : List (ℕ × PlainLine)
  pub told : Handshake

-- with no clients
abbrev pub new_core : Limits → Handshake → PlainCore
new_core config told =
    record {
      hub = record { history = record { base = empty_base config.first_offset; limits = config; journal = [] }; rest = 65535 };
      lines = [];
      told = told;
    }

-- it was made for these settings, and its first pass has counted nothing
abbrev pub IsNew : Limits → Handshake → PlainCore → PlainPass → Type 0
IsNew config told core pass = (core ≡ new_core config told) × (pass ≡ new_pass)

-- the client's line
abbrev pub line_of : List (ℕ × PlainLine) → ℕ → Option PlainLine
line_of lines c = lookup (nat_eq c) lines

-- the hub's history and the clients' lines
pub record Holding : Type 0 where
  pub history : History
  pub lines : ℕ → Option PlainLine

abbrev pub holding : History → List (ℕ × PlainLine) → Holding
holding history lines = record { history = history; lines = line_of lines }

-- where the machine stands between two events: what the core holds, and the ids to come
pub record Standing : Type 0 where
  pub core : Holding
  pub ids : ℕ → ℕ

abbrev pub with_ids : Holding → (ℕ → ℕ) → Standing
with_ids core ids = record { core = core; ids = ids }

abbrev pub standing : History → List (ℕ × PlainLine) → (ℕ → ℕ) → Standing
standing history lines ids = with_ids (holding history lines) ids

-- the other clients' lines are as they were
abbrev pub KeepsOthers : ℕ → Holding → Holding → Type 0
KeepsOthers c s t = (d : ℕ) → c == d ≡ false → t.lines d ≡ s.lines d

-- the client has such a line now, and the others are as they were
abbrev pub HasLine : ℕ → (PlainLine → Type 0) → Holding → Holding → Type 0
HasLine c P s t = elim (t.lines c) [ None ↦ ⊥ | Some line ↦ P line ] × KeepsOthers c s t

-- the client has no line any more
abbrev pub LosesLine : ℕ → Holding → Holding → Type 0
LosesLine c s t = (t.lines c ≡ None) × KeepsOthers c s t

-- the lines are as they were
abbrev pub KeepsLines : Holding → Holding → Type 0
KeepsLines s t = (d : ℕ) → t.lines d ≡ s.lines d

-- a line stands for each open client, and for no other
abbrev pub Agree : History → List (ℕ × PlainLine) → Type 0
Agree h lines = (d : ℕ) → is_some (line_of lines d) ≡ is_open h.base h.journal d

-- U+001E, which separates the packets of a payload, stands in no name of a namespace, in no entry of the base and in none that
-- a step brought in
pub record IsClean (h : History) : Type 0 where
  pub names : AllByRecursion IsWhole h.limits.spaces
  pub entries : BringsOnly is_clean h.base h.limits h.journal
