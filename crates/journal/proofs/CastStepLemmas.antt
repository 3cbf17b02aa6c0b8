-- What a broadcast makes of a hub.
use Rattle.std.proofs.Common.{◌≡◌, ℕ, ◌+◌, ◌^◌, ◌≤◌, ◌==◌, suc, Bool, true, false, ◌&&◌, ◌||◌, not, List, [], ◌∷◌, ◌++◌, length, filter, map, max, refl, sym, ◌∙◌, ap, subst, arith, if◌then◌else◌, Option, None, Some, nat_eq, nat_lt, append-nil, length-append}
use Rattle.std.specs.Prelude.{is_some, IfSome}
use Rattle.std.specs.List.{list_any, find, flat_map, IsDistinct, AllByRecursion}
use Rattle.std.specs.Option.{option_map, option_map_or}
use Rattle.std.proofs.lemmas.Bool.{eqb-true}
use Rattle.terms.specs.declared.entry.Entry.{Entry}
use Rattle.room_maps.specs.Membership.{RoomSets}
use Rattle.room_maps.specs.Addressed as broadcast
use Rattle.recovery.specs.PacketLog.{LogContents, PlainLogged, Pushed, with_entry, offset_at, next_after, newest, kept, IsRun, Rises, latest}
use Rattle.recovery.specs.SavedTable.{PlainSaved, TableContents}
use Rattle.recovery.proofs.PacketLogLemmas.{kept-pushed, run_newest}
use Rattle.room_maps.specs.Membership.{are_too_many}
use Rattle.journal.specs.declared.socket.Socket.{Socket}
use Rattle.journal.specs.declared.step.Step.{Step}
use Rattle.journal.specs.declared.step.What.TheVariants.{Cast}
use Rattle.journal.specs.declared.totals.Counts.{Counts}
use Rattle.journal.specs.Plain.{PlainBase, Limits, PlainClient, PlainBroadcast, PlainMessage}
use Rattle.journal.specs.Journal.{moment, total}
use Rattle.journal.specs.Membership.{open_clients, is_open, sockets, sockets_of, sid_of, pid_of, has_id, socket_with, is_space, is_in_space, rooms}
use Rattle.journal.specs.Sessions.{sessions}
use Rattle.journal.specs.Log.{logged, with_call, log_calls, log, next_number, next}
use Rattle.journal.specs.Outboxes.{put, entries_for, taken_by, placements, waiting, is_addressed, is_full, receivers}
use Rattle.journal.specs.Broadcast.{RightCast, IsOfAForm, is_dropped, reaches}
use Rattle.journal.specs.Totals.{is_spent}
use Rattle.terms.specs.Refusal.{first_refusal}
use Rattle.sio_wire.specs.Offset.{is_bracket}
use Rattle.journal.specs.declared.error.HubError.TheVariants.{UnknownNamespace, BadPayload}
use Rattle.journal.specs.Refusals.{broadcast_refusal}
use Rattle.journal.specs.Legal.{IsAllowed, IsLegal, IsSound, EachTwo, AreApart, DifferInIds}
use Rattle.journal.specs.Fields.{Fields, Counted, CanCount, client_at}
use Rattle.journal.specs.Casting.{in_space, ListsInside, client_of, is_full_in, messages_for, missing, receiver_of, pair_of, with_entries, with_logged, Tells}
use Rattle.journal.proofs.SumsLemmas.{sum-zero}
use Rattle.journal.proofs.MembershipLemmas.{is_open-quiet, clients-quiet, sockets-quiet, sockets_of-quiet, socket_with-quiet}
use Rattle.journal.proofs.OutboxesLemmas.{waiting-step}
use Rattle.journal.proofs.TotalsLemmas.{conserved-step, flow-quiet}
use Rattle.journal.proofs.SessionsLemmas.{LeavesBacklog, BacklogIsSound, packets-quiet, backlog-quiet}
use Rattle.journal.proofs.HubLemmas.{legal-step, all-open, rooms-step}
use Rattle.journal.proofs.CountsLemmas.{counted, can, or_none}
use Rattle.journal.proofs.CommandLemmas.{IsHub}
use Rattle.journal.proofs.CastLemmas.{any-filter, any-map, any-same, any-at, each-found, any-here, here-once, here-clients-once, once-filter, space-clients-once, sids-once, same-length, entries-once, missing-is, message_to, messages-are, all-places, map-receivers, map-pairs, length-map}

-- ---- whom it reaches

module _ (base : PlainBase) (limits : Limits) (before : List Step) (b : PlainBroadcast) (sound : IsSound base limits before)
    (look : ℕ → Option PlainClient) (clients : (c : ℕ) → look c ≡ client_at base limits before c) (seat : ℕ → Option Socket) (seats : (s : ℕ) → seat s ≡ socket_with sid_of base before s)
    (sids : List ℕ) (lists : ListsInside (is_in_space base before b.space) (broadcast.is_addressed (rooms base before) b.rooms b.excepted) sids) where
  abbrev all : List Socket
  all = sockets base before

  abbrev here : List Socket
  here = flat_map (λ s. in_space b.space (seat s)) sids

  abbrev full : Socket → Bool
  full k = is_full_in look b.entry k.client

  abbrev hit : Socket → Bool
  hit k = is_addressed base before b k

  found-seats : (s : ℕ) → seat s ≡ find (has_id sid_of s) all
  unfolding socket_with
  found-seats s = seats s

  full-known : (k : Socket) → is_open base before k.client ≡ true → full k ≡ is_full base limits before k.client b.entry
  full-known k known = rw (clients k.client, known) refl

  -- what is for a socket
  any-here-hit : (p : Socket → Bool) → list_any p here ≡ list_any (λ (k : Socket). p k && hit k) all
  any-here-hit p = any-here all sound.sockets_apart seat found-seats b.space (broadcast.is_addressed (rooms base before) b.rooms b.excepted) sids lists p

  module _ (drops : b.dropped ≡ missing look b.entry here) where
    dropped-are : b.dropped ≡ map sid_of (filter full here)
    dropped-are = drops ∙ missing-is look b.entry here

    abbrev out : ℕ → Bool
    out s = list_any (λ d. d == s) b.dropped

    out-is : (s : ℕ) → out s ≡ list_any (λ (k : Socket). k.sid == s && (hit k && full k)) all
    out-is s =
        ap (list_any (λ d. d == s)) dropped-are
        ∙ any-map (λ d. d == s) sid_of (filter full here)
        ∙ any-filter (λ (k : Socket). k.sid == s) full here
        ∙ any-here-hit (λ (k : Socket). k.sid == s && full k)
        ∙ (λ i. list_any (λ (k : Socket). order (k.sid == s) (full k) (hit k) i) all)
      where
        order : (x y z : Bool) → ((x && y) && z) ≡ (x && (z && y))
        order true true true = refl
        order true true false = refl
        order true false true = refl
        order true false false = refl
        order false y z = refl

    right-drops : (s : ℕ) → out s ≡ is_dropped base limits before b s
    right-drops s =
        out-is s
        ∙ any-same (λ (k : Socket). is_open base before k.client ≡ true) (λ (k : Socket). k.sid == s && (hit k && full k)) (λ (k : Socket). k.sid == s && (hit k && is_full base limits before k.client b.entry))
        (λ k known. ap (λ f. k.sid == s && (hit k && f)) (full-known k known)) all sound.of_open_clients

    -- of a socket itself
    out-of : (k : Socket) → find (has_id sid_of k.sid) all ≡ Some k → out k.sid ≡ (hit k && full k)
    out-of k found = out-is k.sid ∙ any-at all sound.sockets_apart k.sid (λ (k : Socket). hit k && full k) ∙ ap (λ o. option_map_or (λ (k : Socket). hit k && full k) o false) found

    abbrev fits : List Socket
    fits = filter (λ (k : Socket). not (full k)) here

    -- the sockets for whom there is a message are those that get the broadcast
    pub any-fits : (p : Socket → Bool) → list_any p fits ≡ list_any p (receivers base before b)
    any-fits p =
        any-filter p (λ (k : Socket). not (full k)) here
        ∙ any-here-hit (λ (k : Socket). p k && not (full k))
        ∙ any-same (λ (k : Socket). find (has_id sid_of k.sid) all ≡ Some k) (λ (k : Socket). (p k && not (full k)) && hit k) (λ (k : Socket). p k && (hit k && not (list_any (λ s. s == k.sid) b.dropped)))
        (λ k found. rw (out-of k found) (order (p k) (full k) (hit k))) all (each-found all sound.sockets_apart)
        ∙ sym (any-filter p (λ (k : Socket). hit k && not (list_any (λ s. s == k.sid) b.dropped)) all)
      where
        order : (x y z : Bool) → ((x && not y) && z) ≡ (x && (z && not (z && y)))
        order true true true = refl
        order true true false = refl
        order true false true = refl
        order true false false = refl
        order false y z = refl

    in-its-space : (k : Socket) → (hit k && not (list_any (λ s. s == k.sid) b.dropped)) ≡ true → k.space ≡ b.space
    in-its-space k e = on (k.space == b.space) refl e
      where
        on : (t : Bool) → (k.space == b.space) ≡ t → ((t && broadcast.is_addressed (rooms base before) b.rooms b.excepted k.sid) && not (list_any (λ s. s == k.sid) b.dropped)) ≡ true → k.space ≡ b.space
        on true is e = eqb-true k.space b.space is
        on false is e = cc

    receivers-apart : IsDistinct nat_eq (map client_of (receivers base before b))
    receivers-apart = space-clients-once b.space (λ (k : Socket). hit k && not (list_any (λ s. s == k.sid) b.dropped)) in-its-space all sound.sockets_apart

    put-is : (q : ℕ) → entries_for q (put base limits before (Cast b)) ≡ (if reaches base before b q then b.entry ∷ [] else [])
    unfolding put
    put-is q = entries-once b.entry q (receivers base before b) receivers-apart

    placed-is : (at q : ℕ) → placements base limits (record { at = at; what = Cast b } ∷ before) q ≡ placements base limits before q ++ (if reaches base before b q then b.entry ∷ [] else [])
    unfolding placements
    placed-is at q = ap (λ l. placements base limits before q ++ l) (put-is q)

    right-cast : (at : ℕ) → RightCast base limits before (record { at = at; what = Cast b }) b
    right-cast at = record {
      drops = right-drops;
      each_once = subst (IsDistinct nat_eq) (sym dropped-are) (once-filter sid_of full here (here-once all sound.sockets_apart seat found-seats b.space (broadcast.is_addressed (rooms base before) b.rooms b.excepted) sids lists));
      places = λ q e. placed-is at q ∙ ap (λ t. placements base limits before q ++ (if t then b.entry ∷ [] else [])) e;
      others = λ q e. placed-is at q ∙ ap (λ t. placements base limits before q ++ (if t then b.entry ∷ [] else [])) e ∙ append-nil (placements base limits before q);
    }

    number-of-puts : length (put base limits before (Cast b)) ≡ length (receivers base before b)
    unfolding put
    number-of-puts = length-map (λ (k : Socket). (k.client, b.entry)) (receivers base before b)

    as-many : length fits ≡ length (receivers base before b)
    as-many = same-length fits (receivers base before b)
        (once-filter sid_of (λ (k : Socket). not (full k)) here (here-once all sound.sockets_apart seat found-seats b.space (broadcast.is_addressed (rooms base before) b.rooms b.excepted) sids lists))
        (once-filter sid_of (λ (k : Socket). hit k && not (list_any (λ s. s == k.sid) b.dropped)) all (sids-once all sound.sockets_apart))
        any-fits

    pub tells : (messages : List PlainMessage) → messages ≡ messages_for look b.entry here → Tells base limits before b messages
    tells messages is =
        let are : messages ≡ map (message_to look b.entry) fits = is ∙ messages-are look b.entry here in
        let once : IsDistinct nat_eq (map client_of fits) = once-filter client_of (λ (k : Socket). not (full k)) here (here-clients-once all sound.sockets_apart seat found-seats b.space (broadcast.is_addressed (rooms base before) b.rooms b.excepted) sids lists) in
        record {
          right = right-cast;
          apart = subst (λ ms. IsDistinct nat_eq (map receiver_of ms)) (sym are) (subst (IsDistinct nat_eq) (sym (map-receivers look b.entry fits)) once);
          places = subst (AllByRecursion (λ (m : PlainMessage). is_full_in (client_at base limits before) m.entry m.client ≡ false)) (sym are)
              (subst (λ f. AllByRecursion (λ (m : PlainMessage). is_full_in f m.entry m.client ≡ false) (map (message_to look b.entry) fits)) (λ i c. clients c i) (all-places look b.entry here));
          entries = λ q.
              ap (λ ms. entries_for q (map pair_of ms)) are
              ∙ ap (entries_for q) (map-pairs look b.entry fits)
              ∙ entries-once b.entry q fits once
              ∙ ap (λ t. if t then b.entry ∷ [] else []) (any-fits (λ (k : Socket). k.client == q))
              ∙ sym (put-is q);
          number = ap length are ∙ length-map (message_to look b.entry) fits ∙ as-many ∙ sym number-of-puts;
          receivers = λ c.
              ap (λ ms. list_any (λ d. d == c) (map receiver_of ms)) are
              ∙ ap (list_any (λ d. d == c)) (map-receivers look b.entry fits)
              ∙ any-map (λ d. d == c) client_of fits
              ∙ any-fits (λ (k : Socket). k.client == c);
        }

-- ---- the log

run-more : (n : ℕ) (es : List PlainLogged) (e : PlainLogged) → IsRun n es → e.offset ≡ n → IsRun (suc n) (es ++ e ∷ [])
unfolding IsRun
run-more n [] e h same = (omega (arith, same), tt)
run-more n (x ∷ es) e h same = (omega (arith, h.0, length-append es (e ∷ [])), run-more n es e h.1 same)

pub number-of : (n offset : ℕ) → offset_at n ≡ Some offset → n ≡ offset
number-of n offset e = on (nat_lt n (2 ^ 64)) e
  where
    on : (b : Bool) → (if b then Some n else None) ≡ Some offset → n ≡ offset
    on true e = cc
    on false e = cc

module _ (base : PlainBase) (limits : Limits) (before : List Step) (b : PlainBroadcast) (at : ℕ) where
  abbrev step : Step
  step = record { at = at; what = Cast b }

  leaves : b.offset ≡ None → LeavesBacklog base limits step before
  leaves e = record {
    same_sessions = refl;
    no_call = ap (option_map (λ offset. Pushed (logged at b offset))) e;
    unused = ap (λ o. option_map_or (λ offset. 1) o 0) e;
  }

  calls-one : (o : ℕ) → b.offset ≡ Some o → log_calls base limits (step ∷ before) ≡ Pushed (logged at b o) ∷ log_calls base limits before
  unfolding log_calls
  calls-one o e = ap (λ x. with_call (option_map (λ offset. Pushed (logged at b offset)) x) (log_calls base limits before)) e

  pub number-one : (o : ℕ) → b.offset ≡ Some o → next_number base (step ∷ before) ≡ next_number base before + 1
  unfolding next_number total
  number-one o e = ap (λ x. next_number base before + option_map_or (λ offset. 1) x 0) e

  pub log-one : (o : ℕ) → b.offset ≡ Some o → log base limits (step ∷ before) ≡ newest limits.log limits.log_bytes (log base limits before ++ logged at b o ∷ [])
  unfolding log
  log-one o e = ap (kept limits.log limits.log_bytes) (calls-one o e) ∙ kept-pushed limits.log limits.log_bytes (log_calls base limits before) (logged at b o)

  sessions-same : sessions base limits (step ∷ before) ≡ sessions base limits before
  unfolding sessions
  sessions-same = refl

  module _ (sound : IsSound base limits before) (late : moment base before ≤ at) (given : IfSome b.offset (λ offset. next base before ≡ Some offset)) where
    packets-cast : (packets : LogContents) → packets ≡ record { limit = limits.log; bytes = limits.log_bytes; next = next base before; last = packets.last; entries = log base limits before }
        → (packets' : LogContents) → packets' ≡ with_logged packets (option_map (logged at b) b.offset)
        → packets' ≡ record { limit = limits.log; bytes = limits.log_bytes; next = next base (step ∷ before); last = packets'.last; entries = log base limits (step ∷ before) }
    packets-cast packets was packets' is = on b.offset refl given
      where
        on : (o : Option ℕ) → b.offset ≡ o → IfSome o (λ offset. next base before ≡ Some offset) → packets' ≡ record { limit = limits.log; bytes = limits.log_bytes; next = next base (step ∷ before); last = packets'.last; entries = log base limits (step ∷ before) }
        on None e given =
            let same : packets' ≡ packets = is ∙ ap (λ x. with_logged packets (option_map (logged at b) x)) e in
            subst (λ (p : LogContents). p ≡ record { limit = limits.log; bytes = limits.log_bytes; next = next base (step ∷ before); last = p.last; entries = log base limits (step ∷ before) }) (sym same)
            (packets-quiet base limits step before packets (leaves e) was)
        on (Some o) e given =
            let now : packets' ≡ with_entry packets (logged at b o) = is ∙ ap (λ x. with_logged packets (option_map (logged at b) x)) e in
            let limit : packets.limit ≡ limits.log = ap (λ (p : LogContents). p.limit) was in
            let bytes : packets.bytes ≡ limits.log_bytes = ap (λ (p : LogContents). p.bytes) was in
            let entries : packets.entries ≡ log base limits before = ap (λ (p : LogContents). p.entries) was in
            let number : next_after o ≡ next base (step ∷ before) = ap (λ n. offset_at (n + 1)) (sym (number-of (next_number base before) o given)) ∙ ap offset_at (sym (number-one o e)) in
            let kept_is : newest packets.limit packets.bytes (packets.entries ++ logged at b o ∷ []) ≡ log base limits (step ∷ before) = (λ i. newest (limit i) (bytes i) (entries i ++ logged at b o ∷ [])) ∙ sym (log-one o e) in
            subst (λ (p : LogContents). p ≡ record { limit = limits.log; bytes = limits.log_bytes; next = next base (step ∷ before); last = p.last; entries = log base limits (step ∷ before) }) (sym now)
            (λ i. record { limit = limit i; bytes = bytes i; next = number i; last = at; entries = kept_is i })

    last-cast : (packets packets' : LogContents) → packets.last ≤ at → packets' ≡ with_logged packets (option_map (logged at b) b.offset) → packets'.last ≤ at
    last-cast packets packets' within is = subst (λ (p : LogContents). p.last ≤ at) (sym is) (on b.offset)
      where
        on : (o : Option ℕ) → LogContents.last (with_logged packets (option_map (logged at b) o)) ≤ at
        on None = within
        on (Some o) = omega arith

    backlog-one : (o : ℕ) → b.offset ≡ Some o → next base before ≡ Some o → BacklogIsSound base limits (step ∷ before)
    unfolding moment Rises latest
    backlog-one o e given =
        let calls = sym (calls-one o e) in
        let was_late : latest (log_calls base limits before) ≤ at = omega (arith, sound.log_late, late) in
        let number : suc (next_number base before) ≡ next_number base (step ∷ before) = (let n = number-one o e in omega (arith, n)) in
        record {
          sessions_differ = subst (EachTwo DifferInIds) (sym sessions-same) sound.sessions_differ;
          few_rooms = subst (AllByRecursion (λ (s : PlainSaved). are_too_many s.sid s.rooms ≡ false)) (sym sessions-same) sound.few_rooms;
          offsets_rise = subst (IsRun (next_number base (step ∷ before))) (sym (log-one o e))
              (run_newest (next_number base (step ∷ before)) limits.log limits.log_bytes (log base limits before ++ logged at b o ∷ [])
              (subst (λ n. IsRun n (log base limits before ++ logged at b o ∷ [])) number
              (run-more (next_number base before) (log base limits before) (logged at b o) sound.offsets_rise (sym (number-of (next_number base before) o given)))));
          log_rises = subst Rises calls (was_late, sound.log_rises);
          log_late = subst (λ cs. latest cs ≤ at) calls (omega (arith, was_late));
        }

    pub backlog-cast : BacklogIsSound base limits (step ∷ before)
    backlog-cast = on b.offset refl given
      where
        on : (o : Option ℕ) → b.offset ≡ o → IfSome o (λ offset. next base before ≡ Some offset) → BacklogIsSound base limits (step ∷ before)
        on None e given = backlog-quiet base limits step before (leaves e) late sound
        on (Some o) e given = backlog-one o e given

-- where an offset is given is where one is asked for
pub given-where-asked : (asked : Bool) (next : Option ℕ) → (asked && not (is_some next)) ≡ false → is_some (if asked then next else None) ≡ asked
given-where-asked true (Some offset) e = refl
given-where-asked true None e = absurd (cc e)
given-where-asked false next e = refl

-- ---- the command

module _ (base : PlainBase) (limits : Limits) (before : List Step) (b : PlainBroadcast) (legal : IsLegal base limits before) (sound : IsSound base limits before) where
  -- what a client is after the broadcast
  client-cast : (at q : ℕ) → client_at base limits (record { at = at; what = Cast b } ∷ before) q ≡ option_map (with_entries (entries_for q (put base limits before (Cast b)))) (client_at base limits before q)
  client-cast at q =
      let step : Step = record { at = at; what = Cast b } in
      rw (is_open-quiet base step before refl (λ c. refl) q, sockets_of-quiet base step before refl (λ k. refl) q, waiting-step base limits step before legal q refl) (on (is_open base before q))
    where
      on : (o : Bool) → (if o then Some (record { sockets = sockets_of base before q; outbox = record { waiting = waiting base limits before q ++ entries_for q (put base limits before (Cast b)); capacity = limits.capacity; bytes = limits.bytes } }) else None)
          ≡ option_map (with_entries (entries_for q (put base limits before (Cast b)))) (if o then Some (record { sockets = sockets_of base before q; outbox = record { waiting = waiting base limits before q; capacity = limits.capacity; bytes = limits.bytes } }) else None)
      on true = refl
      on false = refl

  -- each entry that is put is for an open client
  all-known : (t : Socket → Bool) (ks : List Socket) → AllByRecursion (λ (k : Socket). is_open base before k.client ≡ true) ks
      → AllByRecursion (λ (p : ℕ × Entry). is_open base before p.0 ≡ true) (map (λ (k : Socket). (k.client, b.entry)) (filter t ks))
  all-known t [] known = tt
  all-known t (k ∷ ks) known = on (t k) (all-known t ks known.1)
    where
      on : (b' : Bool) → AllByRecursion (λ (p : ℕ × Entry). is_open base before p.0 ≡ true) (map (λ (k : Socket). (k.client, b.entry)) (filter t ks))
          → AllByRecursion (λ (p : ℕ × Entry). is_open base before p.0 ≡ true) (map (λ (k : Socket). (k.client, b.entry)) (if b' then k ∷ filter t ks else filter t ks))
      on true ih = (known.0, ih)
      on false ih = ih

  puts-known : AllByRecursion (λ (p : ℕ × Entry). is_open base before p.0 ≡ true) (put base limits before (Cast b))
  unfolding put
  puts-known = all-known (λ (k : Socket). is_addressed base before b k && not (list_any (λ s. s == k.sid) b.dropped)) (sockets base before) sound.of_open_clients

  module _ (formed : IsOfAForm limits b) (given : IfSome b.offset (λ offset. next base before ≡ Some offset))
      (messages : List PlainMessage) (told : Tells base limits before b messages) where
    free : broadcast_refusal limits b ≡ None
    free = on (is_space limits b.space) (list_any is_bracket formed.payload) (nat_lt 32 (length b.entry.attachments)) formed.refusal
      where
        on : (s p n : Bool) → first_refusal ((not s, UnknownNamespace) ∷ (not p || n, BadPayload) ∷ []) ≡ None → first_refusal ((not s, UnknownNamespace) ∷ (n, BadPayload) ∷ []) ≡ None
        on false p n e = cc
        on true true true e = cc
        on true true false e = refl
        on true false n e = cc

    allowed : (at : ℕ) → is_spent base limits before (Cast b) ≡ false → IsAllowed base limits before (record { at = at; what = Cast b }) (Cast b)
    allowed at room = (or_none free room, record { formed = formed; offset = given; cast = told.right at })

    sound-cast : (at : ℕ) → is_spent base limits before (Cast b) ≡ false → moment base before ≤ at → IsSound base limits (record { at = at; what = Cast b } ∷ before)
    unfolding rooms
    sound-cast at room late =
        let step : Step = record { at = at; what = Cast b } in
        let cs = clients-quiet base step before refl (λ c. refl) in
        let ks = sockets-quiet base step before refl (λ k. refl) in
        let backlog = backlog-cast base limits before b at sound late given in
        record {
          few_spaces = sound.few_spaces;
          clients_once = subst (IsDistinct nat_eq) (sym cs) sound.clients_once;
          sockets_apart = subst (EachTwo AreApart) (sym ks) sound.sockets_apart;
          of_open_clients = subst (AllByRecursion (λ (k : Socket). is_open base (step ∷ before) k.client ≡ true)) (sym ks)
              (all-open base limits step before (λ c e. is_open-quiet base step before refl (λ c. refl) c ∙ e) (sockets base before) sound.of_open_clients);
          in_spaces = subst (AllByRecursion (λ (k : Socket). is_space limits k.space ≡ true)) (sym ks) sound.in_spaces;
          seated = λ s. sound.seated s ∙ sym (ap is_some (socket_with-quiet base step before sid_of refl (λ k. refl) s));
          rooms_agree = sound.rooms_agree;
          apart = rw (ks, sessions-same base limits before b at) sound.apart;
          sessions_differ = backlog.sessions_differ;
          few_rooms = backlog.few_rooms;
          offsets_rise = backlog.offsets_rise;
          log_rises = backlog.log_rises;
          log_late = backlog.log_late;
          conserved = conserved-step base limits step before sound.conserved
              (let f = flow-quiet base limits step before legal (allowed at room) sound.clients_once refl (λ c. refl) (λ c. refl) puts-known (sum-zero (λ c. taken_by c (Cast b)) (open_clients base before) (λ c e. refl)) in omega (arith, f));
        }

    fields-cast : (now newest : ℕ) (find find' : ℕ → Option PlainClient) (seat : ℕ → Option Socket) (is_pid : ℕ → Bool) (sets : RoomSets) (table : TableContents) (packets packets' : LogContents)
        → Fields base limits find seat is_pid sets table packets newest before
        → packets' ≡ with_logged packets (option_map (logged (max now newest) b) b.offset)
        → ((q : ℕ) → find' q ≡ option_map (with_entries (entries_for q (map pair_of messages))) (find q))
        → Fields base limits find' seat is_pid sets table packets' (max now newest) (record { at = max now newest; what = Cast b } ∷ before)
    unfolding moment
    fields-cast now newest find find' seat is_pid sets table packets packets' was logs puts =
        let step : Step = record { at = max now newest; what = Cast b } in
        let late : moment base before ≤ max now newest = rw (← was.last) (omega arith) in
        record {
          clients = λ q. puts q ∙ (λ i. option_map (with_entries (told.entries q i)) (was.clients q i)) ∙ sym (client-cast (max now newest) q);
          seats = λ s. was.seats s ∙ sym (socket_with-quiet base step before sid_of refl (λ k. refl) s);
          pids = λ p. was.pids p ∙ sym (ap is_some (socket_with-quiet base step before pid_of refl (λ k. refl) p));
          rooms_are = rooms-step base limits step before sets sets was.rooms_are refl;
          saved_is = rw (sessions-same base limits before b (max now newest)) was.saved_is;
          log_is = packets-cast base limits before b (max now newest) sound late given packets was.log_is packets' logs;
          log_last = last-cast base limits before b (max now newest) sound late given packets packets' (omega (arith, was.log_last)) logs;
          last = refl;
        }

    pub casted : (now newest : ℕ) (find find' : ℕ → Option PlainClient) (seat : ℕ → Option Socket) (is_pid : ℕ → Bool) (sets : RoomSets) (table : TableContents) (packets packets' : LogContents) (counts : Counts)
        → IsHub base limits find seat is_pid sets table packets newest counts before
        → is_spent base limits before (Cast b) ≡ false
        → packets' ≡ with_logged packets (option_map (logged (max now newest) b) b.offset)
        → ((q : ℕ) → find' q ≡ option_map (with_entries (entries_for q (map pair_of messages))) (find q))
        → IsHub base limits find' seat is_pid sets table packets' (max now newest) (record { commands = counts.commands + 1; placed = counts.placed + length messages; dropped = counts.dropped + length b.dropped; taken = counts.taken + 0; discarded = counts.discarded + 0 }) (record { at = max now newest; what = Cast b } ∷ before)
    casted now newest find find' seat is_pid sets table packets packets' counts was room logs puts =
        let step : Step = record { at = max now newest; what = Cast b } in
        let late : moment base before ≤ max now newest = rw (← was.0.last) (omega arith) in (
          fields-cast now newest find find' seat is_pid sets table packets packets' was.0 logs puts,
          legal-step base limits step before (allowed (max now newest) room) late was.1,
          sound-cast (max now newest) room late,
          counted base limits before counts was.3 was.2.conserved step (length messages) (length b.dropped) 0 0 (sym told.number) refl refl refl,
        )

    pub can_cast : (counts : Counts) → Counted base limits counts before → is_spent base limits before (Cast b) ≡ false → CanCount counts (length messages) (length b.dropped) 0 0
    can_cast counts was room = can base limits before counts was sound.conserved (Cast b) (length messages) (length b.dropped) 0 0 (sym told.number) refl refl refl room
