-- What one more step puts, takes and counts in two histories that say the same.
use Rattle.std.proofs.Common.{◌≡◌, ℕ, ◌+◌, ◌==◌, Bool, true, false, ◌&&◌, ◌||◌, not, List, [], ◌∷◌, ◌++◌, length, drop, filter, map, refl, sym, ◌∙◌, ap, subst, if◌then◌else◌, Option, None, Some, nat_eq, append-nil}
use Rattle.std.specs.Prelude.{IfSome}
use Rattle.std.specs.List.{list_any, IsDistinct}
use Rattle.std.specs.Option.{option_map, option_map_or}
use Rattle.std.specs.Set.{is_member}
use Rattle.std.proofs.lemmas.Bool.{eqb-true, eq-eqb}
use Rattle.std.proofs.lemmas.Cmp.{nat_eq_equiv}
use Rattle.room_maps.specs.Addressed as broadcast
use Rattle.recovery.specs.PacketLog.{Pushed, newest, is_fresh, offset_at, kept}
use Rattle.terms.specs.declared.entry.Entry.{Entry}
use Rattle.journal.specs.declared.socket.Socket.{Socket}
use Rattle.journal.specs.declared.step.Step.{Step}
use Rattle.journal.specs.declared.step.What.{What}
use Rattle.journal.specs.declared.step.What.TheVariants.{Opened, Recovered, Cast, Parked, Closed, Swept}
use Rattle.journal.specs.declared.totals.Totals.{Totals}
use Rattle.journal.specs.Plain.{PlainBase, Limits, PlainBroadcast}
use Rattle.journal.specs.Journal.{history}
use Rattle.journal.specs.Membership.{opens, closes, open_clients, is_open, sockets, sid_of, rooms}
use Rattle.journal.specs.Log.{logged, log_call, with_call, log_calls, log, offsets_used, next_number, next}
use Rattle.journal.specs.Outboxes.{answer, put, entries_for, entries_of, begins, taken_by, placements, waiting, is_addressed, receivers}
use Rattle.journal.specs.Broadcast.{reaches}
use Rattle.journal.specs.Totals.{placed_by, dropped_by, handed_out_by, discarded_by, waiting_in_all, totals}
use Rattle.journal.specs.Legal.{EachTwo, AreApart, IsSound, IsLegal, IsRight}
use Rattle.journal.specs.Seal.{SaysTheSame}
use Rattle.journal.proofs.SumsLemmas.{sum-same, sum-members, distinct-filter, member-filter}
use Rattle.journal.proofs.OutboxesLemmas.{waiting-step, waiting-begins}
use Rattle.journal.proofs.TotalsLemmas.{commands-step, placed-step, dropped-step, handed_out-step, discarded-step}
use Rattle.journal.proofs.SessionsLemmas.{next-quiet}
use Rattle.journal.proofs.HubLemmas.{distinct-push}
use Rattle.journal.proofs.CountsLemmas.{is_open-member}
use Rattle.journal.proofs.CastLemmas.{any-filter, once-filter, space-clients-once, sids-once, same-length, entries-once, length-map}
use Rattle.journal.proofs.CastStepLemmas.{number-of, number-one, log-one}
use Rattle.journal.proofs.SweepLemmas.{log-swept}
use Rattle.journal.proofs.EpochsSocketsLemmas.{is_open-step, any-socket-as, open-after}

-- ---- one history

module _ (base : PlainBase) (limits : Limits) (before : List Step) where
  -- the socket gets the broadcast
  abbrev gets : PlainBroadcast → Socket → Bool
  gets b k = is_addressed base before b k && not (list_any (λ s. s == k.sid) b.dropped)

  in-its-space : (b : PlainBroadcast) (k : Socket) → gets b k ≡ true → k.space ≡ b.space
  in-its-space b k e = on (k.space == b.space) refl e
    where
      on : (t : Bool) → (k.space == b.space) ≡ t → ((t && broadcast.is_addressed (rooms base before) b.rooms b.excepted k.sid) && not (list_any (λ s. s == k.sid) b.dropped)) ≡ true → k.space ≡ b.space
      on true is e = eqb-true k.space b.space is
      on false is e = absurd (cc e)

  -- a client that the broadcast reaches gets it once
  entries-cast : EachTwo AreApart (sockets base before) → (b : PlainBroadcast) (q : ℕ) → entries_for q (put base limits before (Cast b)) ≡ (if reaches base before b q then b.entry ∷ [] else [])
  unfolding put
  entries-cast apart b q = entries-once b.entry q (receivers base before b) (space-clients-once b.space (gets b) (in-its-space b) (sockets base before) apart)

  pub placements-cast : EachTwo AreApart (sockets base before) → (b : PlainBroadcast) (at q : ℕ)
      → placements base limits (record { at = at; what = Cast b } ∷ before) q ≡ placements base limits before q ++ (if reaches base before b q then b.entry ∷ [] else [])
  unfolding placements
  placements-cast apart b at q = ap (λ l. placements base limits before q ++ l) (entries-cast apart b q)

  receivers-once : EachTwo AreApart (sockets base before) → (b : PlainBroadcast) → IsDistinct nat_eq (map sid_of (receivers base before b))
  receivers-once apart b = once-filter sid_of (gets b) (sockets base before) (sids-once (sockets base before) apart)

  -- the step doesn't touch the log
  pub log-uncalled : (step : Step) → log_call limits step.at step.what ≡ None → log base limits (step ∷ before) ≡ log base limits before
  unfolding log log_calls
  log-uncalled step none = ap (λ call. kept limits.log limits.log_bytes (with_call call (log_calls base limits before))) none

  -- a client that the step ends is open
  abbrev pub EndsOpen : What → Type 0
  EndsOpen what = (c : ℕ) → closes what c ≡ true → is_open base before c ≡ true

  -- a client that it opens isn't
  abbrev pub OpensNew : What → Type 0
  OpensNew what = (d : ℕ) → begins d what ≡ true → is_open base before d ≡ false

  once-with : (cs : List ℕ) (what : What) → IsDistinct nat_eq cs → ((d : ℕ) → begins d what ≡ true → is_member nat_eq cs d ≡ false) → IsDistinct nat_eq (filter (λ c. not (closes what c)) cs ++ opens what)
  once-with cs (Opened d) once new =
      distinct-push base limits d (filter (λ c. true) cs) (distinct-filter (λ c. true) cs once)
      (member-filter (λ c. true) d cs ∙ ap (λ b. b && true) (new d (eq-eqb d d refl)))
  once-with cs what once new = subst (IsDistinct nat_eq) (sym (append-nil (filter (λ c. not (closes what c)) cs))) (distinct-filter (λ c. not (closes what c)) cs once)

  pub once-after : (step : Step) → IsDistinct nat_eq (open_clients base before) → OpensNew step.what → IsDistinct nat_eq (open_clients base (step ∷ before))
  unfolding open_clients
  once-after step once new = once-with (open_clients base before) step.what once (λ d e. sym (is_open-member base before d) ∙ new d e)

  opens-begins : (c : ℕ) (what : What) → is_member nat_eq (opens what) c ≡ begins c what
  opens-begins c (Opened d) = or-false (nat_eq c d) ∙ nat_eq_equiv.symm c d
    where
      or-false : (b : Bool) → (b || false) ≡ b
      or-false true = refl
      or-false false = refl
  opens-begins c _ = refl

  -- an open client that wasn't opened just now was open before
  open-before : (step : Step) (c : ℕ) → begins c step.what ≡ false → is_open base (step ∷ before) c ≡ true → is_open base before c ≡ true
  open-before step c e known = on (is_open base before c) (closes step.what c) (sym (ap (λ b. (is_open base before c && not (closes step.what c)) || b) (opens-begins c step.what ∙ e)) ∙ sym (is_open-step base step before c) ∙ known)
    where
      on : (a b : Bool) → ((a && not b) || false) ≡ true → a ≡ true
      on true b e = refl
      on false b e = e

-- ---- two histories

module _ (limits : Limits) (base base' : PlainBase) (before before' : List Step) (sound : IsSound base limits before) (sound' : IsSound base' limits before') (same : SaysTheSame (history base limits before) (history base' limits before')) where
  pub addressed-same : (b : PlainBroadcast) (k : Socket) → is_addressed base' before' b k ≡ is_addressed base before b k
  addressed-same b k = ap (λ sets. k.space == b.space && broadcast.is_addressed sets b.rooms b.excepted k.sid) same.same_rooms

  any-receiver : (b : PlainBroadcast) (p : Socket → Bool) → list_any p (receivers base' before' b) ≡ list_any p (receivers base before b)
  any-receiver b p =
      any-filter p (gets base' limits before' b) (sockets base' before')
      ∙ any-socket-as limits base base' before before' sound sound' same (λ k. p k && gets base' limits before' b k) (λ k. p k && gets base limits before b k)
      (λ k known. ap (λ a. p k && (a && not (list_any (λ s. s == k.sid) b.dropped))) (addressed-same b k))
      ∙ sym (any-filter p (gets base limits before b) (sockets base before))

  pub reaches-same : (b : PlainBroadcast) (q : ℕ) → reaches base' before' b q ≡ reaches base before b q
  reaches-same b q = any-receiver b (λ (k : Socket). k.client == q)

  -- each client gets the same of a step
  entries-same : (what : What) (q : ℕ) → entries_for q (put base' limits before' what) ≡ entries_for q (put base limits before what)
  unfolding put
  entries-same (Recovered r) q = ap (λ l. entries_for q (map (λ e. (r.socket.client, e)) (answer limits r.socket ∷ entries_of l r.missed))) same.same_log
  entries-same (Cast b) q =
      entries-cast base' limits before' sound'.sockets_apart b q
      ∙ ap (λ t. if t then b.entry ∷ [] else []) (reaches-same b q)
      ∙ sym (entries-cast base limits before sound.sockets_apart b q)
  entries-same _ q = refl

  pub placed-same : (what : What) → placed_by base' limits before' what ≡ placed_by base limits before what
  unfolding put
  placed-same (Recovered r) = ap (λ l. length {A = ℕ × Entry} (map (λ e. (r.socket.client, e)) (answer limits r.socket ∷ entries_of l r.missed))) same.same_log
  placed-same (Cast b) =
      length-map (λ (k : Socket). (k.client, b.entry)) (receivers base' before' b)
      ∙ same-length (receivers base' before' b) (receivers base before b) (receivers-once base' limits before' sound'.sockets_apart b) (receivers-once base limits before sound.sockets_apart b) (any-receiver b)
      ∙ sym (length-map (λ (k : Socket). (k.client, b.entry)) (receivers base before b))
  placed-same _ = refl

  pub discarded-same : (what : What) → EndsOpen base limits before what → discarded_by base' limits before' what ≡ discarded_by base limits before what
  discarded-same (Parked c) known = ap length (same.same_waiting c (known c (eq-eqb c c refl)))
  discarded-same (Closed c) known = ap length (same.same_waiting c (known c (eq-eqb c c refl)))
  discarded-same _ known = refl

  -- ---- after one more step

  module _ (legal : IsLegal base limits before) (legal' : IsLegal base' limits before') (step : Step) where
    pub waits-after : (c : ℕ) → is_open base (step ∷ before) c ≡ true → waiting base' limits (step ∷ before') c ≡ waiting base limits (step ∷ before) c
    waits-after c known = on (begins c step.what) refl
      where
        on : (b : Bool) → begins c step.what ≡ b → waiting base' limits (step ∷ before') c ≡ waiting base limits (step ∷ before) c
        on true e = waiting-begins base' limits step before' c e ∙ sym (waiting-begins base limits step before c e)
        on false e =
            waiting-step base' limits step before' legal' c e
            ∙ (λ i. drop (taken_by c step.what) (same.same_waiting c (open-before base limits before step c e known) i ++ entries-same step.what c i))
            ∙ sym (waiting-step base limits step before legal c e)

    in-all-after : OpensNew base limits before step.what → waiting_in_all base' limits (step ∷ before') ≡ waiting_in_all base limits (step ∷ before)
    unfolding waiting_in_all
    in-all-after new =
        sum-members (λ c. length (waiting base' limits (step ∷ before') c)) (open_clients base' (step ∷ before')) (open_clients base (step ∷ before))
        (once-after base' limits before' step sound'.clients_once (λ d e. same.same_open d ∙ new d e))
        (once-after base limits before step sound.clients_once new)
        (λ q. sym (is_open-member base' (step ∷ before') q) ∙ open-after limits base base' before before' sound sound' same step q ∙ is_open-member base (step ∷ before) q)
        ∙ sum-same (λ c. length (waiting base' limits (step ∷ before') c)) (λ c. length (waiting base limits (step ∷ before) c)) (open_clients base (step ∷ before))
        (λ c e. ap length (waits-after c (is_open-member base (step ∷ before) c ∙ e)))

    pub totals-after : EndsOpen base limits before step.what → OpensNew base limits before step.what → totals base' limits (step ∷ before') ≡ totals base limits (step ∷ before)
    totals-after known new =
        let was : totals base' limits before' ≡ totals base limits before = same.same_totals in
        let commands-after = commands-step base' limits step before' ∙ ap (λ (t : Totals). t.commands + 1) was ∙ sym (commands-step base limits step before) in
        let placed-after = placed-step base' limits step before' ∙ (λ i. Totals.placed (was i) + placed-same step.what i) ∙ sym (placed-step base limits step before) in
        let dropped-after = dropped-step base' limits step before' ∙ ap (λ (t : Totals). t.dropped + dropped_by step.what) was ∙ sym (dropped-step base limits step before) in
        let taken-after = handed_out-step base' limits step before' ∙ ap (λ (t : Totals). t.taken + handed_out_by step.what) was ∙ sym (handed_out-step base limits step before) in
        let discarded-after = discarded-step base' limits step before' ∙ (λ i. Totals.discarded (was i) + discarded-same step.what known i) ∙ sym (discarded-step base limits step before) in
        let in_all = in-all-after new in
        λ i. record { commands = commands-after i; placed = placed-after i; dropped = dropped-after i; taken = taken-after i; discarded = discarded-after i; waiting = in_all i }

  -- ---- the log

  pub log-after : (at : ℕ) (what : What) → log base' limits (record { at = at; what = what } ∷ before') ≡ log base limits (record { at = at; what = what } ∷ before)
  log-after at (Cast b) = on b.offset refl
    where
      on : (o : Option ℕ) → b.offset ≡ o → log base' limits (record { at = at; what = Cast b } ∷ before') ≡ log base limits (record { at = at; what = Cast b } ∷ before)
      on None e =
          let none : log_call limits at (Cast b) ≡ None = ap (option_map (λ offset. Pushed (logged at b offset))) e in
          log-uncalled base' limits before' (record { at = at; what = Cast b }) none ∙ same.same_log ∙ sym (log-uncalled base limits before (record { at = at; what = Cast b }) none)
      on (Some o) e =
          log-one base' limits before' b at o e
          ∙ ap (λ l. newest limits.log limits.log_bytes (l ++ logged at b o ∷ [])) same.same_log
          ∙ sym (log-one base limits before b at o e)
  log-after at Swept = log-swept base' limits at before' sound'.log_rises ∙ ap (filter (is_fresh limits.keep at)) same.same_log ∙ sym (log-swept base limits at before sound.log_rises)
  log-after at what = log-uncalled base' limits before' (record { at = at; what = what }) refl ∙ same.same_log ∙ sym (log-uncalled base limits before (record { at = at; what = what }) refl)

  pub next-after : (at : ℕ) (what : What) → IsRight base' limits before' (record { at = at; what = what }) what → next base' (record { at = at; what = what } ∷ before') ≡ next base (record { at = at; what = what } ∷ before)
  next-after at (Cast b) right = on b.offset refl right.offset
    where
      on : (o : Option ℕ) → b.offset ≡ o → IfSome o (λ offset. next base' before' ≡ Some offset) → next base' (record { at = at; what = Cast b } ∷ before') ≡ next base (record { at = at; what = Cast b } ∷ before)
      on None e given =
          let none : offsets_used (Cast b) ≡ 0 = ap (λ o. option_map_or (λ offset. 1) o 0) e in
          next-quiet base' limits (record { at = at; what = Cast b }) before' none ∙ same.same_next ∙ sym (next-quiet base limits (record { at = at; what = Cast b }) before none)
      on (Some o) e given =
          ap offset_at (number-one base' limits before' b at o e)
          ∙ ap (λ n. offset_at (n + 1)) (number-of (next_number base' before') o given ∙ sym (number-of (next_number base before) o (sym same.same_next ∙ given)))
          ∙ sym (ap offset_at (number-one base limits before b at o e))
  next-after at what right =
      next-quiet base' limits (record { at = at; what = what }) before' refl ∙ same.same_next ∙ sym (next-quiet base limits (record { at = at; what = what }) before refl)
