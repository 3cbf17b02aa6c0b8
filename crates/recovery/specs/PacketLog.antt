-- Which broadcasts a log has (Socket.IO server documentation, "Connection state recovery").
use Rattle.std.specs.Prelude.{◌≡◌, ℕ, suc, ◌+◌, ◌*◌, ◌^◌, ◌<◌, ◌≤◌, ◌==◌, max, Bool, true, false, not, ◌&&◌, nat_lt, nat_le, if◌then◌else◌, List, [], ◌∷◌, ◌++◌, length, drop, filter, sum_by, Option, Some, None, unwrap_or, Result, Ok, Err}
use Rattle.std.specs.List.{list_any, find, slice_get}
use Rattle.terms.specs.declared.entry.Entry.{Entry}
use Rattle.terms.specs.Entry.{entry_size}
use Rattle.recovery.specs.Expiry.{is_outdated}
use Rattle.recovery.specs.declared.error.RecoveryError.{RecoveryError}
use Rattle.recovery.specs.declared.error.RecoveryError.TheVariants.{Spent}

-- a logged broadcast as plain data
pub record PlainLogged : Type 0 where
  pub offset : ℕ
  pub at : ℕ
  pub space : ℕ
  pub rooms : List (List ℕ)
  pub excepted : List (List ℕ)
  pub entry : Entry

-- a log as plain data: how many entries it may hold, how many bytes these may have together, the
-- next offset, the last moment that it saw, and its entries, the oldest first
pub record LogContents : Type 0 where
  pub limit : ℕ
  pub bytes : ℕ
  pub next : Option ℕ
  pub last : ℕ
  pub entries : List PlainLogged

-- a log that has these
abbrev pub contents :
    (limit bytes : ℕ) → Option ℕ → (last : ℕ) → List PlainLogged → LogContents
contents limit bytes next last entries =
    record { limit = limit; bytes = bytes; next = next; last = last; entries = entries }

-- ---- bytes

-- the bytes in which a list of rooms is held: 65 for each, however long its name is
abbrev pub rooms_size : List (List ℕ) → ℕ
rooms_size rooms = 65 * length rooms

-- the bytes that a logged broadcast holds: those of what is sent, and of the rooms that it names
abbrev pub logged_size : PlainLogged → ℕ
logged_size e = entry_size e.entry + rooms_size e.rooms + rooms_size e.excepted

-- the bytes that these hold together
unfoldable pub logged_bytes : List PlainLogged → ℕ
logged_bytes entries = sum_by logged_size entries

-- ---- offsets

-- the number as an offset, which there is none of past the greatest u64
abbrev pub offset_at : ℕ → Option ℕ
offset_at n = if nat_lt n (2 ^ 64) then Some n else None

-- the offset after this one
abbrev pub next_after : ℕ → Option ℕ
next_after offset = offset_at (offset + 1)

-- the answer of a push
abbrev pub offset_or_spent : Option ℕ → Result ℕ RecoveryError
offset_or_spent None = Err Spent
offset_or_spent (Some offset) = Ok offset

-- the number of the next offset, also where there is none
abbrev pub number_of : Option ℕ → ℕ
number_of next = unwrap_or next (2 ^ 64)

-- an entry with this offset stands among these
abbrev pub stands : ℕ → List PlainLogged → Bool
stands offset entries = list_any (λ e. e.offset == offset) entries

-- the entries past this offset
abbrev pub later_than : ℕ → List PlainLogged → List PlainLogged
later_than offset entries = filter (λ e. nat_lt offset e.offset) entries

-- each entry's offset is one more than that of the one before it, and the last is the one below n
unfoldable pub IsRun : ℕ → List PlainLogged → Type 0
IsRun n [] = Unit {0}
IsRun n (e ∷ es) = (e.offset + length (e ∷ es) ≡ n) × IsRun n es

-- the entry with this offset stands at this index, and those after it are all
-- that have a greater one
pub record IsIndex (offset : ℕ) (entries : List PlainLogged) (i : ℕ) : Type 0 where
  pub within : i < length entries
  pub stands : stands offset entries ≡ true
  pub found : find (λ (e : PlainLogged). e.offset == offset) entries ≡ slice_get entries i
  pub later : later_than offset entries ≡ drop (i + 1) entries

-- no entry has this offset
pub record HasNone (offset : ℕ) (entries : List PlainLogged) : Type 0 where
  pub stands : stands offset entries ≡ false
  pub found : find (λ (e : PlainLogged). e.offset == offset) entries ≡ None

-- ---- one call

-- these are at most so many, and have at most so many bytes together
abbrev pub fits : (limit bytes : ℕ) → List PlainLogged → Bool
fits limit bytes entries =
    nat_le (length entries) limit && nat_le (logged_bytes entries) bytes

-- the newest entries: the longest end of these that fits
unfoldable pub newest : (limit bytes : ℕ) → List PlainLogged → List PlainLogged
newest limit bytes [] = []
newest limit bytes (e ∷ es) =
    if fits limit bytes (e ∷ es) then e ∷ es else newest limit bytes es

-- the entry is not outdated
abbrev pub is_fresh : (keep now : ℕ) → PlainLogged → Bool
is_fresh keep now e = not (is_outdated keep now e.at)

-- the log with one entry more, which forgets the oldest that have no space beside it
abbrev pub with_entry : LogContents → PlainLogged → LogContents
with_entry log e =
    record {
      limit = log.limit;
      bytes = log.bytes;
      next = next_after e.offset;
      last = e.at;
      entries = newest log.limit log.bytes (log.entries ++ e ∷ []);
    }

-- the log after a sweep at this moment
abbrev pub swept : LogContents → (keep now : ℕ) → LogContents
swept log keep now =
    record {
      limit = log.limit;
      bytes = log.bytes;
      next = log.next;
      last = now;
      entries = filter (is_fresh keep now) log.entries;
    }

-- the broadcast, logged with this offset at this moment, or at the log's last where that is later
abbrev pub logged_as :
    LogContents → (offset at space : ℕ) → (rooms excepted : List (List ℕ)) → Entry → PlainLogged
logged_as log offset at space rooms excepted entry =
    record {
      offset = offset;
      at = max log.last at;
      space = space;
      rooms = rooms;
      excepted = excepted;
      entry = entry;
    }

-- ---- all calls so far

-- an accepted call: a broadcast was pushed, or the log was swept, keeping what is at
-- most so old at a moment
pub data LogCall : Type 0 where
  Pushed : PlainLogged → LogCall
  Swept : (keep now : ℕ) → LogCall

-- the broadcasts that were pushed, the oldest first. A history has the newest call first.
unfoldable pub pushed : List LogCall → List PlainLogged
pushed [] = []
pushed (Pushed e ∷ before) = pushed before ++ e ∷ []
pushed (Swept keep now ∷ before) = pushed before

-- how many broadcasts were pushed
unfoldable pub pushes : List LogCall → ℕ
pushes [] = 0
pushes (Pushed e ∷ before) = suc (pushes before)
pushes (Swept keep now ∷ before) = pushes before

-- the greatest moment so far
unfoldable pub latest : List LogCall → ℕ
latest [] = 0
latest (Pushed e ∷ before) = max (latest before) e.at
latest (Swept keep now ∷ before) = max (latest before) now

-- the call is a sweep that drops what was logged at this moment
abbrev pub drops : ℕ → LogCall → Bool
drops at (Pushed e) = false
drops at (Swept keep now) = is_outdated keep now at

-- the broadcasts of a history that no sweep after them drops, be it in the history or among the
-- calls after it
unfoldable pub unswept : (later : List LogCall) → List LogCall → List PlainLogged
unswept later [] = []
unswept later (Pushed e ∷ before) =
    unswept (Pushed e ∷ later) before
    ++ (if list_any (drops e.at) later then [] else e ∷ [])
unswept later (Swept keep now ∷ before) = unswept (Swept keep now ∷ later) before

-- what a log has after a history: the newest of the broadcasts that no sweep dropped
abbrev pub kept : (limit bytes : ℕ) → List LogCall → List PlainLogged
kept limit bytes history = newest limit bytes (unswept [] history)

-- moments never fall
unfoldable pub Rises : List LogCall → Type 0
Rises [] = Unit {0}
Rises (Pushed e ∷ before) = (latest before ≤ e.at) × Rises before
Rises (Swept keep now ∷ before) = (latest before ≤ now) × Rises before

-- the first broadcast has this number, and each next one has one more
unfoldable pub IsNumbered : ℕ → List LogCall → Type 0
IsNumbered first [] = Unit {0}
IsNumbered first (Pushed e ∷ before) = (e.offset ≡ first + pushes before) × IsNumbered first before
IsNumbered first (Swept keep now ∷ before) = IsNumbered first before

-- this history, whose first offset is `first`, leads to these contents
pub record IsLogOf (first : ℕ) (history : List LogCall) (log : LogContents) : Type 0 where
  pub rises : Rises history
  pub numbered : IsNumbered first history
  pub next : log.next ≡ offset_at (first + pushes history)
  pub last : log.last ≡ latest history
  pub entries : log.entries ≡ kept log.limit log.bytes history

-- ---- what every log keeps

-- no entry was logged before the one that it follows, and none after this moment
unfoldable pub RisesTo : ℕ → List PlainLogged → Type 0
RisesTo last [] = Unit {0}
RisesTo last (e ∷ []) = e.at ≤ last
RisesTo last (e ∷ f ∷ es) = (e.at ≤ f.at) × RisesTo last (f ∷ es)

pub record IsLog (log : LogContents) : Type 0 where
  pub some : 1 ≤ log.limit
  pub fits : fits log.limit log.bytes log.entries ≡ true
  pub run : IsRun (number_of log.next) log.entries
  pub rises : RisesTo log.last log.entries
