-- The sessions that were lost and may come back (Socket.IO server documentation, "Connection state
-- recovery"): a map from private session ids to sessions.
use Rattle.std.specs.Prelude.{◌≡◌, ℕ, ◌==◌, Bool, false, not, nat_lt, nat_le, is_some, if◌then◌else◌, List, [], ◌∷◌, length, filter, Option, Some, None, Result, Ok, Err}
use Rattle.std.specs.List.{list_any, find, AllByRecursion}
use Rattle.std.specs.List.Sorted.{IsStrictlySortedBy}
use Rattle.std.specs.declared.cmp.Ordering.{Ordering}
use Rattle.std.specs.Ordering.{nat_cmp, ordering_then}
use Rattle.std.specs.Map.{lookup, keys_of}
use Rattle.std.specs.BTreeMap.{is_at}
use Rattle.terms.specs.Refusal.{first_refusal}
use Rattle.recovery.specs.declared.error.RecoveryError.{RecoveryError}
use Rattle.recovery.specs.declared.error.RecoveryError.TheVariants.{PidTaken, UnknownPid, Expired, TableFull}
use Rattle.recovery.specs.Expiry.{is_outdated}

-- a lost session as plain data
pub record PlainSaved : Type 0 where
  pub sid : ℕ
  pub pid : ℕ
  pub space : ℕ
  pub rooms : List (List ℕ)
  pub lost_at : ℕ

-- a table as plain data: how many sessions it may hold, and its sessions, rising by private id
pub record TableContents : Type 0 where
  pub limit : ℕ
  pub sessions : List PlainSaved

-- the session with this private id
abbrev pub session : TableContents → ℕ → Option PlainSaved
session table pid = find (λ (s : PlainSaved). s.pid == pid) table.sessions

-- some session has this session id, outdated or not
abbrev pub has_sid : TableContents → ℕ → Bool
has_sid table sid = list_any (λ (s : PlainSaved). s.sid == sid) table.sessions

-- the session is not outdated
abbrev pub is_alive : (keep now : ℕ) → PlainSaved → Bool
is_alive keep now s = not (is_outdated keep now s.lost_at)

-- the sessions with one more, in the order of private ids
abbrev pub with_session : PlainSaved → List PlainSaved → List PlainSaved
with_session s [] = s ∷ []
with_session s (t ∷ ts) = if nat_lt s.pid t.pid then s ∷ t ∷ ts else t ∷ with_session s ts

-- the table with one session more
abbrev pub saved : TableContents → PlainSaved → TableContents
saved table s = record { limit = table.limit; sessions = with_session s table.sessions }

-- the table without the session that has this private id
abbrev pub removed : TableContents → ℕ → TableContents
removed table pid =
    record {
      limit = table.limit;
      sessions = filter (λ (s : PlainSaved). not (s.pid == pid)) table.sessions;
    }

-- the table after a sweep at this moment
abbrev pub table_swept : TableContents → (keep now : ℕ) → TableContents
table_swept table keep now =
    record { limit = table.limit; sessions = filter (is_alive keep now) table.sessions }

-- ---- refusals

-- why a session is not saved
abbrev pub save_refusal : TableContents → ℕ → Option RecoveryError
save_refusal table pid =
    first_refusal
    ((is_some (session table pid), PidTaken)
    ∷ (nat_le table.limit (length table.sessions), TableFull)
    ∷ [])

-- why what was looked up is not handed out
abbrev pub refusal_of : Option PlainSaved → (keep now : ℕ) → Option RecoveryError
refusal_of None keep now = Some UnknownPid
refusal_of (Some s) keep now = first_refusal ((is_outdated keep now s.lost_at, Expired) ∷ [])

-- why a session is not found
abbrev pub find_refusal : TableContents → (pid keep now : ℕ) → Option RecoveryError
find_refusal table pid keep now = refusal_of (session table pid) keep now

-- the session that was looked up, or the error
abbrev pub or_unknown : Option PlainSaved → Result PlainSaved RecoveryError
or_unknown None = Err UnknownPid
or_unknown (Some s) = Ok s

-- ---- the indexes

-- each session stands under its private id
unfoldable pub IsKeyed : List (ℕ × PlainSaved) → Type 0
IsKeyed entries = AllByRecursion (λ e. e.1.pid ≡ e.0) entries

-- pairs in the order of their first numbers, those of one first number in the order of the second
abbrev pub pair_cmp : ℕ × ℕ → ℕ × ℕ → Ordering
pair_cmp a b = ordering_then (nat_cmp a.0 b.0) (nat_cmp a.1 b.1)

-- there is a session, and this number of it is n
abbrev pub has_number : (PlainSaved → ℕ) → ℕ → Option PlainSaved → Bool
has_number number n None = false
has_number number n (Some s) = number s == n

-- the pairs are those of this number and the private id of each session
abbrev pub IsIndex : (PlainSaved → ℕ) → List (ℕ × PlainSaved) → List (ℕ × ℕ) → Type 0
IsIndex number by_pid pairs = (n pid : ℕ)
    → list_any (is_at (pair_cmp (n, pid))) pairs
    ≡ has_number number n (lookup (is_at (nat_cmp pid)) by_pid)

-- all indexes have the same sessions
pub record IsTable (by_pid : List (ℕ × PlainSaved)) (by_loss by_sid : List (ℕ × ℕ)) : Type 0 where
  pub keyed : IsKeyed by_pid
  pub rises : IsStrictlySortedBy nat_cmp (keys_of by_pid)
  pub losses : IsIndex (λ s. s.lost_at) by_pid by_loss
  pub sids : IsIndex (λ s. s.sid) by_pid by_sid
