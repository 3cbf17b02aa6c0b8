-- What one more step makes of the saved sessions and of the log.
use Rattle.std.proofs.Common.{◌≡◌, ◌+◌, ◌≤◌, ◌==◌, Bool, true, false, ◌||◌, List, [], ◌∷◌, ◌++◌, refl, sym, ◌∙◌, ap, subst, arith, None, Some, if◌then◌else◌}
use Rattle.std.specs.Prelude.{is_some}
use Rattle.std.specs.List.{list_any, find, AllByRecursion}
use Rattle.std.proofs.lemmas.List.Folds.{list_any-append}
use Rattle.std.proofs.lemmas.Bool.Decides.{nat_tests}
use Rattle.recovery.specs.PacketLog.{LogContents, offset_at, number_of, kept, IsRun, Rises, latest}
use Rattle.recovery.specs.SavedTable.{PlainSaved, TableContents}
use Rattle.room_maps.specs.Membership.{are_too_many}
use Rattle.journal.specs.declared.socket.Socket.{Socket}
use Rattle.journal.specs.declared.step.Step.{Step}
use Rattle.journal.specs.Plain.{PlainBase, Limits}
use Rattle.journal.specs.Journal.{moment, total}
use Rattle.journal.specs.Sessions.{sessions, sessions_after, is_sid_saved, is_pid_saved}
use Rattle.journal.specs.Log.{log_call, with_call, log_calls, log, offsets_used, next_number, next}
use Rattle.journal.specs.Legal.{IsSound, IsAway, EachTwo, DifferInIds}

-- the step leaves the saved sessions and the log alone
pub record LeavesBacklog (base : PlainBase) (limits : Limits) (step : Step) (before : List Step) : Type 0 where
  pub same_sessions : sessions_after base limits before step.at (sessions base limits before) step.what ≡ sessions base limits before
  pub no_call : log_call limits step.at step.what ≡ None
  pub unused : offsets_used step.what ≡ 0

-- what a sound hub has of saved sessions and of the log, but for the sockets that are connected
pub record BacklogIsSound (base : PlainBase) (limits : Limits) (journal : List Step) : Type 0 where
  pub sessions_differ : EachTwo DifferInIds (sessions base limits journal)
  pub few_rooms : AllByRecursion (λ (s : PlainSaved). are_too_many s.sid s.rooms ≡ false) (sessions base limits journal)
  pub offsets_rise : IsRun (next_number base journal) (log base limits journal)
  pub log_rises : Rises (log_calls base limits journal)
  pub log_late : latest (log_calls base limits journal) ≤ moment base journal

module _ (base : PlainBase) (limits : Limits) (step : Step) (before : List Step) where
  pub sessions-quiet : LeavesBacklog base limits step before → sessions base limits (step ∷ before) ≡ sessions base limits before
  unfolding sessions
  sessions-quiet leaves = leaves.same_sessions

  pub calls-quiet : LeavesBacklog base limits step before → log_calls base limits (step ∷ before) ≡ log_calls base limits before
  unfolding log_calls
  calls-quiet leaves = ap (λ call. with_call call (log_calls base limits before)) leaves.no_call

  pub log-quiet : LeavesBacklog base limits step before → log base limits (step ∷ before) ≡ log base limits before
  unfolding log
  log-quiet leaves = ap (kept limits.log limits.log_bytes) (calls-quiet leaves)

  pub number-quiet : offsets_used step.what ≡ 0 → next_number base (step ∷ before) ≡ next_number base before
  unfolding next_number total
  number-quiet none =
      let e : total (λ before what. offsets_used what) (number_of base.next) before + offsets_used step.what ≡ total (λ before what. offsets_used what) (number_of base.next) before = omega (arith, none) in e

  pub next-quiet : offsets_used step.what ≡ 0 → next base (step ∷ before) ≡ next base before
  next-quiet none = ap offset_at (number-quiet none)

  -- ---- the fields

  pub table-quiet : (table : TableContents) → LeavesBacklog base limits step before → table ≡ record { limit = limits.saved; sessions = sessions base limits before }
      → table ≡ record { limit = limits.saved; sessions = sessions base limits (step ∷ before) }
  table-quiet table leaves was = rw (sessions-quiet leaves) was

  pub packets-quiet : (packets : LogContents) → LeavesBacklog base limits step before
      → packets ≡ record { limit = limits.log; bytes = limits.log_bytes; next = next base before; last = packets.last; entries = log base limits before }
      → packets ≡ record { limit = limits.log; bytes = limits.log_bytes; next = next base (step ∷ before); last = packets.last; entries = log base limits (step ∷ before) }
  packets-quiet packets leaves was = rw (number-quiet leaves.unused, log-quiet leaves) was

  -- ---- what a sound hub has

  pub backlog-quiet : LeavesBacklog base limits step before → moment base before ≤ step.at → IsSound base limits before → BacklogIsSound base limits (step ∷ before)
  unfolding moment
  backlog-quiet leaves late was =
      let ss = sym (sessions-quiet leaves) in
      let cs = sym (calls-quiet leaves) in
      let was_late : latest (log_calls base limits before) ≤ step.at = omega (arith, was.log_late, late) in
      record {
        sessions_differ = subst (EachTwo DifferInIds) ss was.sessions_differ;
        few_rooms = subst (AllByRecursion (λ (s : PlainSaved). are_too_many s.sid s.rooms ≡ false)) ss was.few_rooms;
        offsets_rise = rw (number-quiet leaves.unused, log-quiet leaves) was.offsets_rise;
        log_rises = subst Rises cs was.log_rises;
        log_late = subst (λ calls. latest calls ≤ step.at) cs was_late;
      }

  -- a step that leaves the sockets alone too
  pub apart-quiet : (connected connected' : List Socket) → LeavesBacklog base limits step before → connected' ≡ connected → AllByRecursion (IsAway connected) (sessions base limits before)
      → AllByRecursion (IsAway connected') (sessions base limits (step ∷ before))
  apart-quiet connected connected' leaves same was = rw (same, sessions-quiet leaves) was

-- ---- saved sessions and the ids of sockets

none-more : (a b : Bool) → a ≡ false → b ≡ false → (a || b) ≡ false
none-more true b e f = e
none-more false b e f = f

-- no saved session has an id of a new socket
pub away-push : (k : Socket) (ks : List Socket) (saved : List PlainSaved) → is_sid_saved saved k.sid ≡ false → is_pid_saved saved k.pid ≡ false → AllByRecursion (IsAway ks) saved
    → AllByRecursion (IsAway (ks ++ k ∷ [])) saved
away-push k ks [] no_sid no_pid was = tt
away-push k ks (s ∷ saved) no_sid no_pid was = (
  (away (λ (l : Socket). l.sid == s.sid) was.0.0 (grind (arith, nat_tests, no_sid)), away (λ (l : Socket). l.pid == s.pid) was.0.1 (grind (arith, nat_tests, no_pid))),
  away-push k ks saved (grind (arith, nat_tests, no_sid)) (grind (arith, nat_tests, no_pid)) was.1,
)
  where
    away : (p : Socket → Bool) → list_any p ks ≡ false → p k ≡ false → list_any p (ks ++ k ∷ []) ≡ false
    away p e f = list_any-append p ks (k ∷ []) ∙ none-more (list_any p ks) (p k || false) e (none-more (p k) false f refl)

-- a look-up by the private id tells whether it is saved
pub is_some-find : {A : Type 0} (p : A → Bool) (xs : List A) → is_some (find p xs) ≡ list_any p xs
is_some-find p [] = refl
is_some-find p (x ∷ xs) = on (p x) (is_some-find p xs)
  where
    on : (b : Bool) → is_some (find p xs) ≡ list_any p xs → is_some (if b then Some x else find p xs) ≡ (b || list_any p xs)
    on true e = refl
    on false e = e
