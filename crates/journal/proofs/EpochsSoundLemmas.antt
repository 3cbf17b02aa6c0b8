-- A history that says what a sound one says is sound too, where it came of a sound one by one step.
use Rattle.std.proofs.Common.{◌≡◌, ◌≢◌, ℕ, ◌+◌, ◌≤◌, ◌==◌, Bool, true, false, List, [], ◌∷◌, refl, sym, ◌∙◌, ap, subst, arith, if◌then◌else◌, None}
use Rattle.std.specs.Prelude.{is_some}
use Rattle.std.specs.List.{find, AllByRecursion}
use Rattle.std.proofs.lemmas.Bool.{eq-eqb}
use Rattle.room_maps.specs.Membership.{is_socket, AreConsistent, are_too_many}
use Rattle.recovery.specs.PacketLog.{IsRun, Rises, latest}
use Rattle.recovery.specs.SavedTable.{PlainSaved}
use Rattle.journal.specs.declared.socket.Socket.{Socket}
use Rattle.journal.specs.declared.step.Step.{Step}
use Rattle.journal.specs.declared.step.What.{What}
use Rattle.journal.specs.declared.step.What.TheVariants.{Cast, Swept}
use Rattle.journal.specs.declared.totals.Totals.{Totals}
use Rattle.journal.specs.Plain.{PlainBase, Limits}
use Rattle.journal.specs.Journal.{history, moment}
use Rattle.journal.specs.Membership.{is_open, is_space, sockets, sid_of, has_id, socket_with, sockets_of}
use Rattle.journal.specs.Sessions.{sessions}
use Rattle.journal.specs.Log.{log_call, with_call, log_calls, log, offsets_used, next_number}
use Rattle.journal.specs.Legal.{EachTwo, AreApart, IsAway, DifferInIds, IsAllowed, IsLegal, IsSound}
use Rattle.journal.specs.Seal.{SaysTheSame}
use Rattle.journal.proofs.SessionsLemmas.{number-quiet}
use Rattle.journal.proofs.EndLemmas.{all-filter, each-filter}
use Rattle.journal.proofs.CastStepLemmas.{backlog-cast}
use Rattle.journal.proofs.SweepLemmas.{swept-sound}
use Rattle.journal.proofs.SealListsLemmas.{all-to, of_client, across}
use Rattle.journal.proofs.EpochsSocketsLemmas.{same-any}
use Rattle.journal.proofs.EpochsOutboxesLemmas.{OpensNew, once-after, log-uncalled}

-- ---- lists of sockets that have the same of each client

-- what is so of each client's sockets is so of all
all-of-clients : (P : Socket → Type 0) (ks : List Socket) → ((c : ℕ) → AllByRecursion P (of_client ks c)) → AllByRecursion P ks
all-of-clients P [] h = tt
all-of-clients P (k ∷ ks) h = (first (k.client == k.client) (eq-eqb k.client k.client refl) (h k.client), all-of-clients P ks (λ c. rest c (k.client == c) (h c)))
  where
    first : (b : Bool) → b ≡ true → AllByRecursion P (if b then k ∷ of_client ks k.client else of_client ks k.client) → P k
    first true e all = all.0
    first false e all = absurd (cc e)

    rest : (c : ℕ) (b : Bool) → AllByRecursion P (if b then k ∷ of_client ks c else of_client ks c) → AllByRecursion P (of_client ks c)
    rest c true all = all.1
    rest c false all = all

all-as : (P : Socket → Type 0) (ls ks : List Socket) → ((c : ℕ) → of_client ls c ≡ of_client ks c) → AllByRecursion P ls → AllByRecursion P ks
all-as P ls ks same h = all-of-clients P ks (λ c. subst (AllByRecursion P) (same c) (all-filter P (λ (k : Socket). k.client == c) ls h))

-- apart, if they are of two clients
abbrev AreApartAcross : Socket → Socket → Type 0
AreApartAcross k l = (k.client ≢ l.client) → AreApart k l

one-apart : (k : Socket) (ls : List Socket) → AllByRecursion (AreApart k) (of_client ls k.client) → AllByRecursion (AreApartAcross k) ls → AllByRecursion (AreApart k) ls
one-apart k [] own others = tt
one-apart k (l ∷ ls) own others = on (l.client == k.client) refl own (one-apart k ls)
  where
    on : (b : Bool) → (l.client == k.client) ≡ b → AllByRecursion (AreApart k) (if b then l ∷ of_client ls k.client else of_client ls k.client)
        → (AllByRecursion (AreApart k) (of_client ls k.client) → AllByRecursion (AreApartAcross k) ls → AllByRecursion (AreApart k) ls) → AllByRecursion (AreApart k) (l ∷ ls)
    on true e own rest = (own.0, rest own.1 others.1)
    on false e own rest = (others.0 (λ is. let same : (l.client == k.client) ≡ true = eq-eqb l.client k.client (sym is) in absurd (cc (same, e))), rest own others.1)

-- sockets of one client are apart, and those of two
each-of-clients : (ks : List Socket) → ((c : ℕ) → EachTwo AreApart (of_client ks c)) → AllByRecursion (λ k. AllByRecursion (AreApartAcross k) ks) ks → EachTwo AreApart ks
unfolding EachTwo
each-of-clients [] own others = tt
each-of-clients (k ∷ ks) own others = (
  one-apart k ks (first (k.client == k.client) (eq-eqb k.client k.client refl) (own k.client)) others.0.1,
  each-of-clients ks (λ c. rest c (k.client == c) (own c)) (all-to (λ j. AllByRecursion (AreApartAcross j) (k ∷ ks)) (λ j. AllByRecursion (AreApartAcross j) ks) (λ j h. h.1) ks others.1),
)
  where
    first : (b : Bool) → b ≡ true → EachTwo AreApart (if b then k ∷ of_client ks k.client else of_client ks k.client) → AllByRecursion (AreApart k) (of_client ks k.client)
    first true e each = each.0
    first false e each = absurd (cc e)

    rest : (c : ℕ) (b : Bool) → EachTwo AreApart (if b then k ∷ of_client ks c else of_client ks c) → EachTwo AreApart (of_client ks c)
    rest c true each = each.1
    rest c false each = each

apart-as : (ls ks : List Socket) → ((c : ℕ) → of_client ls c ≡ of_client ks c) → EachTwo AreApart ls → EachTwo AreApart ks
apart-as ls ks same apart =
    each-of-clients ks (λ c. subst (EachTwo AreApart) (same c) (each-filter AreApart (λ (k : Socket). k.client == c) ls apart))
    (all-as (λ k. AllByRecursion (AreApartAcross k) ks) ls ks same
    (all-to (λ k. AllByRecursion (AreApartAcross k) ls) (λ k. AllByRecursion (AreApartAcross k) ks) (λ k h. all-as (AreApartAcross k) ls ks same h) ls (across ls ls apart)))

-- ---- the log

-- what a sound hub has of the log
record LogIsSound (base : PlainBase) (limits : Limits) (journal : List Step) : Type 0 where
  offsets_rise : IsRun (next_number base journal) (log base limits journal)
  log_rises : Rises (log_calls base limits journal)
  log_late : latest (log_calls base limits journal) ≤ moment base journal

module _ (base : PlainBase) (limits : Limits) (before : List Step) (sound : IsSound base limits before) (at : ℕ) (late : moment base before ≤ at) where
  calls-uncalled : (what : What) → log_call limits at what ≡ None → log_calls base limits (record { at = at; what = what } ∷ before) ≡ log_calls base limits before
  unfolding log_calls
  calls-uncalled what none = ap (λ call. with_call call (log_calls base limits before)) none

  log-quiet : (what : What) → log_call limits at what ≡ None → offsets_used what ≡ 0 → LogIsSound base limits (record { at = at; what = what } ∷ before)
  unfolding moment
  log-quiet what none unused = record {
    offsets_rise = rw (number-quiet base limits (record { at = at; what = what }) before unused, log-uncalled base limits before (record { at = at; what = what }) none) sound.offsets_rise;
    log_rises = subst Rises (sym (calls-uncalled what none)) sound.log_rises;
    log_late = subst (λ calls. latest calls ≤ at) (sym (calls-uncalled what none)) (omega (arith, sound.log_late, late));
  }

  log-after : IsLegal base limits before → (what : What) → IsAllowed base limits before (record { at = at; what = what }) what → LogIsSound base limits (record { at = at; what = what } ∷ before)
  log-after legal (Cast b) allowed =
      let backlog = backlog-cast base limits before b at sound late allowed.1.offset in
      record { offsets_rise = backlog.offsets_rise; log_rises = backlog.log_rises; log_late = backlog.log_late }
  log-after legal Swept allowed =
      let swept = swept-sound base limits at before legal allowed sound late in
      record { offsets_rise = swept.offsets_rise; log_rises = swept.log_rises; log_late = swept.log_late }
  log-after legal what allowed = log-quiet what refl refl

-- ---- the history

module _ (limits : Limits) (base base' : PlainBase) (before after' : List Step) (sound : IsSound base limits before) (legal : IsLegal base limits before) (at : ℕ) (late : moment base before ≤ at) (what : What)
    (allowed : IsAllowed base limits before (record { at = at; what = what }) what) (new : OpensNew base limits before what)
    (sound' : IsSound base' limits after') (same : SaysTheSame (history base limits (record { at = at; what = what } ∷ before)) (history base' limits after')) where
  abbrev after : List Step
  after = record { at = at; what = what } ∷ before

  of-client : (c : ℕ) → of_client (sockets base' after') c ≡ of_client (sockets base after) c
  unfolding sockets_of
  of-client = same.same_sockets

  by-sid : (s : ℕ) → find (has_id sid_of s) (sockets base after) ≡ find (has_id sid_of s) (sockets base' after')
  unfolding socket_with
  by-sid s = sym (same.same_by_sid s)

  apart-too : EachTwo AreApart (sockets base after)
  apart-too = apart-as (sockets base' after') (sockets base after) of-client sound'.sockets_apart

  away-too : (s : PlainSaved) → IsAway (sockets base' after') s → IsAway (sockets base after) s
  away-too s away = (
    same-any (sockets base after) (sockets base' after') apart-too sound'.sockets_apart by-sid (λ (k : Socket). k.sid == s.sid) ∙ away.0,
    same-any (sockets base after) (sockets base' after') apart-too sound'.sockets_apart by-sid (λ (k : Socket). k.pid == s.pid) ∙ away.1,
  )

  pub sound-after : IsSound base limits after
  sound-after =
      let logs = log-after base limits before sound at late legal what allowed in
      record {
        few_spaces = sound.few_spaces;
        clients_once = once-after base limits before (record { at = at; what = what }) sound.clients_once new;
        sockets_apart = apart-too;
        of_open_clients = all-as (λ (k : Socket). is_open base after k.client ≡ true) (sockets base' after') (sockets base after) of-client
            (all-to (λ (k : Socket). is_open base' after' k.client ≡ true) (λ (k : Socket). is_open base after k.client ≡ true) (λ k e. sym (same.same_open k.client) ∙ e) (sockets base' after') sound'.of_open_clients);
        in_spaces = all-as (λ (k : Socket). is_space limits k.space ≡ true) (sockets base' after') (sockets base after) of-client sound'.in_spaces;
        seated = λ s. ap (λ sets. is_socket sets s) (sym same.same_rooms) ∙ sound'.seated s ∙ ap is_some (same.same_by_sid s);
        rooms_agree = subst AreConsistent same.same_rooms sound'.rooms_agree;
        apart = subst (AllByRecursion (IsAway (sockets base after))) same.same_sessions
            (all-to (IsAway (sockets base' after')) (IsAway (sockets base after)) away-too (sessions base' limits after') sound'.apart);
        sessions_differ = subst (EachTwo DifferInIds) same.same_sessions sound'.sessions_differ;
        few_rooms = subst (AllByRecursion (λ (s : PlainSaved). are_too_many s.sid s.rooms ≡ false)) same.same_sessions sound'.few_rooms;
        offsets_rise = logs.offsets_rise;
        log_rises = logs.log_rises;
        log_late = logs.log_late;
        conserved = subst (λ (t : Totals). t.placed ≡ t.taken + t.discarded + t.waiting) same.same_totals sound'.conserved;
      }
